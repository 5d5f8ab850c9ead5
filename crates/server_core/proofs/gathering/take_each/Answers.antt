use Rattle.std.proofs.Common.{◌≡◌, ◌+◌, [], ◌∷◌, ◌++◌, length, map, sum_by, rules, arith, ap, ◌∙◌}
use Rattle.std.proofs.lemmas.List.Sums.{sum_by-cons}
use Rattle.std.specs.Vec.Iter.{into_iter_items}
use Rattle.server_core.specs.Sums.{later_ends}
use Rattle.server_core.proofs.Attending.{mapped_push}
use Rattle.server_core.proofs.Columns.{more_taken}
use Rattle.server_core.proofs.gathering.take_each.Goals as goal

pub loop-thread-preserved : goal.loop-thread-preserved
loop-thread-preserved g c =
    let at = c.loop-thread in
    let thread = map (λ s. s.items) c.in-Some.thread.items in
    let moved : map (λ t. map (λ s. s.items) t.items) c.push_reserved.new.self.items ≡ map (λ t. map (λ s. s.items) t.items) at.kept.items ++ map later_ends thread ∷ [] =
    mapped_push _ _ _ _ c.push_reserved.ensures.items ∙ ap (λ t. map (λ t. map (λ s. s.items) t.items) at.kept.items ++ t ∷ []) c.take_firsts.ensures.rest in
    let sums : sum_by (λ t. length t.items) (into_iter_items at.thread-iterator) ≡ length c.in-Some.thread.items + sum_by (λ t. length t.items) (into_iter_items c.next.new.self) =
    ap (sum_by (λ t. length t.items)) c.in-Some.ensures.steps.0 ∙ sum_by-cons (λ t. length t.items) c.in-Some.thread (into_iter_items c.next.new.self) in
    record {
      taken = more_taken at.invariant.taken thread _ _ _ (ap (map (λ t. map (λ s. s.items) t.items)) c.in-Some.ensures.steps.0) moved c.take_firsts.ensures.taken;
      left = search rules;
      kept = search rules;
      room = omega (arith, sums, at.invariant.room, c.take_firsts.ensures.room, c.in-Some.thread.ok.0);
    }
