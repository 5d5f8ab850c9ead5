use Rattle.std.proofs.Common.{◌≡◌, [], ◌∷◌, ◌++◌, map, rules, sym, ap, ◌∙◌}
use Rattle.std.specs.Vec.Iter.{into_iter_items}
use Rattle.std.proofs.lemmas.List.{nil_from_length}
use Rattle.server_core.specs.Attended.{all_of}
use Rattle.server_core.proofs.Attending.{all_joined, all_of_push, is_kept, mapped_push, more_joined, none_joined}
use Rattle.server_core.proofs.sessions.join_all.Goals as goal

pub loop-one-init : goal.loop-one-init
loop-one-init g c =
    let no_endings : map (λ t. t.items) c.args.attended.now.endings.items ≡ [] = ap (map (λ t. t.items)) c.requires.empty.0 in
    let none : all_of (map (λ t. map (λ s. s.items) t.items) c.args.attended.now.sessions.items) ≡ [] =
    ap (λ ts. all_of (map (λ t. map (λ s. s.items) t.items) ts)) c.requires.empty.1 in
    record {
      joined = none_joined _ _ _ _ _ _ _ _ _ _ c.requires.promised c.into_iter-one-iterator.ensures.into_iter_gives.0 no_endings none;
      left = search rules;
      endings = search rules;
      sessions = search rules;
    }

pub loop-one-preserved : goal.loop-one-preserved
loop-one-preserved g c =
    let at = c.loop-one in
    let line = c.join_one-endings.result in
    let ended : map (λ t. t.items) c.push_reserved.new.self.items ≡ map (λ t. t.items) at.attended.endings.items ++ line.endings.items ∷ [] =
    mapped_push _ _ _ _ c.push_reserved.ensures.items in
    let given : all_of (map (λ t. map (λ s. s.items) t.items) c.push_reserved-in-loop-one.new.self.items)
    ≡ all_of (map (λ t. map (λ s. s.items) t.items) at.attended.sessions.items) ++ map (λ s. s.items) line.sessions.items =
    ap all_of (mapped_push _ _ _ _ c.push_reserved-in-loop-one.ensures.items)
    ∙ all_of_push (map (λ t. map (λ s. s.items) t.items) at.attended.sessions.items) (map (λ s. s.items) line.sessions.items) in
    record {
      joined = more_joined _ _ _ _ _ _ _ _ _ _ _ _ _ _ _ at.invariant.joined c.in-Some.ensures.steps.0 ended given
          (is_kept c.in-Some.one (λ t. t.promise.names.value) (λ t. t.promise.connection.value) (λ v. v.items) g.C.Connect.bytes g.C.Connect.follows g.M.Marker.origin
          c.args.server.now.shared.now.names line.endings.items (map (λ s. s.items) line.sessions.items) c.join_one-endings.ensures);
      left = search rules;
      endings = search rules;
      sessions = search rules;
    }

pub returns : goal.returns
returns g c =
    let at = c.loop-one in
    let none : into_iter_items at.one-iterator ≡ [] = nil_from_length _ (sym at.invariant.left ∙ c.in-None.ensures.steps.0) in
    all_joined _ _ _ _ _ _ _ _ _ at.invariant.joined none
