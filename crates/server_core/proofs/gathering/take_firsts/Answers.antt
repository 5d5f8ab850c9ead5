use Rattle.std.proofs.Common.{◌≡◌, ◌<◌, [], ◌∷◌, ◌++◌, map, drop, length, refl, rules, arith, ap, ◌∙◌}
use Rattle.std.proofs.lemmas.List.{length-map}
use Rattle.server_core.specs.Sums.{later_ends}
use Rattle.server_core.proofs.Attending.{mapped_push}
use Rattle.server_core.proofs.Columns.{all_through, begun, head_is, one_through}
use Rattle.server_core.proofs.gathering.take_firsts.Goals as goal

pub loop-init : goal.loop-init
loop-init g c = record { through = begun _ _; as_many = refl; within = search rules; room = search rules; fewer = search rules; same = refl }

pub loop-preserved : goal.loop-preserved
loop-preserved g c =
    let at = c.loop in
    let first = c.in-Some.first in
    let left = drop 1 at.sessions.items in
    let some : 0 < length at.sessions.items = search rules in
    let is = head_is at.sessions.items first some c.in-Some.ensures.lookup in
    let now : map (λ s. s.items) at.sessions.items ≡ first.items ∷ map (λ s. s.items) left = ap (map (λ s. s.items)) is in
    let moved : map (λ s. s.items) c.push_back_reserved.new.self.items ≡ map (λ s. s.items) left ++ later_ends first.items ∷ [] =
    mapped_push _ left c.push_back_reserved.new.self.items c.take_into.new.session
    (c.push_back_reserved.ensures.items ∙ ap (λ xs. xs ++ c.take_into.new.session ∷ []) c.pop_front.ensures.rest)
    ∙ ap (λ e. map (λ s. s.items) left ++ e ∷ []) c.take_into.ensures.rest in
    let all : length (map (λ s. s.items) c.args.sessions.now.items) ≡ length c.args.sessions.now.items = length-map _ _ in
    let within : at.counter < length (map (λ s. s.items) c.args.sessions.now.items) =
    omega (arith, all, c.args.sessions.now.ok.0, c.loop-test.true, c.len-end.ensures) in
    record {
      through = one_through at.invariant.through within first.items (map (λ s. s.items) left) _ _ now moved c.take_into.ensures.taken;
      as_many = search rules;
      within = search rules;
      room = search rules;
      fewer = search rules;
      same = search rules;
    }

pub returns-clause-rest : goal.returns-clause-rest
returns-clause-rest g c =
    let all : length (map (λ s. s.items) c.args.sessions.now.items) ≡ length c.args.sessions.now.items = length-map _ _ in
    (all_through c.loop.invariant.through (omega (arith, all, c.args.sessions.now.ok.0, c.loop-test.false, c.len-end.ensures))).0

pub returns-clause-taken : goal.returns-clause-taken
returns-clause-taken g c =
    let all : length (map (λ s. s.items) c.args.sessions.now.items) ≡ length c.args.sessions.now.items = length-map _ _ in
    (all_through c.loop.invariant.through (omega (arith, all, c.args.sessions.now.ok.0, c.loop-test.false, c.len-end.ensures))).1
