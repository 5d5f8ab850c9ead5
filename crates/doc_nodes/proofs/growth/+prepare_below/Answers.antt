use Rattle.std.proofs.Common.{◌≡◌, ◌∙◌, ◌≤◌, ◌+◌, [], ◌∷◌, length, sym, ap, subst, Some}
use Rattle.std.specs.Prelude.{IsSome}
use Rattle.std.proofs.lemmas.List.{nil_from_length}
use Rattle.std.proofs.lemmas.Result.{on_ok_weaker}
use Rattle.op_core.specs.Shape.{key_of}
use Rattle.doc_nodes.specs.Nodes.{child_of}
use Rattle.doc_nodes.specs.PresenceAlong.{keys_below}
use Rattle.doc_nodes.specs.Growth.{IsMade, missing_along}
use Rattle.doc_nodes.proofs.Growing.{grows_twice}
use Rattle.doc_nodes.proofs.Made.{made_end, made_step, room_kept}
use Rattle.doc_nodes.proofs.Missing.{first_missing, step_missing}
use Rattle.doc_nodes.proofs.growth.+prepare_below.Goals as goal

pub returns-in_ok-node-in-None-clause-ok : goal.returns-in_ok-node-in-None-clause-ok
returns-in_ok-node-in-None-clause-ok t c =
    let new = c.ready_child.new.nodes.items in
    let made = c.in_ok-node-in-None.ensures in
    let keys : keys_below c.args.way.now c.args.key.now ≡ c.args.key.now ∷ [] =
    ap (λ w. keys_below w c.args.key.now) (nil_from_length c.args.way.now c.in-None.ensures.cases) in
    subst (IsMade new c.args.at) (sym keys)
    (made_step new c.args.at c.in_ok-node-in-None.node c.args.key.now []
    (room_kept c.args.nodes.now.items new made.grows c.args.at c.requires.room)
    made.child
    (made_end new c.in_ok-node-in-None.node made.room))

pub returns-in_ok-below-in-Some-clause-ok : goal.returns-in_ok-below-in-Some-clause-ok
returns-in_ok-below-in-Some-clause-ok t c =
    let old = c.args.nodes.now.items in
    let between = c.ready_child-in-Some.new.nodes.items in
    let new = c.prepare_below.new.nodes.items in
    let key = key_of c.in-Some.next.now in
    let rest = keys_below c.in-Some.rest.now c.args.key.now in
    let below = c.in_ok-below-in-Some.below in
    let grows = grows_twice old between new c.in_ok-below-in-Some.ensures.grows c.prepare_below.ensures.grows in
    let keys : keys_below c.args.way.now c.args.key.now ≡ key ∷ rest =
    ap (λ w. keys_below w c.args.key.now) c.in-Some.ensures.cases.0 in
    let child : child_of between c.args.at key ≡ Some below =
    ap (child_of between c.args.at) (sym c.key.ensures) ∙ c.in_ok-below-in-Some.ensures.child in
    on_ok_weaker c.prepare_below.result
    (λ made. subst (IsMade new c.args.at) (sym keys)
    (made_step new c.args.at below key rest
    (room_kept old new grows c.args.at c.requires.room)
    (c.prepare_below.ensures.grows.forward c.args.at key below child)
    made))
    c.prepare_below.ensures.ok

pub returns-in_err-node-in-None-clause-missing : goal.returns-in_err-node-in-None-clause-missing
returns-in_err-node-in-None-clause-missing t c =
    let old = c.args.nodes.now.items in
    let keys : keys_below c.args.way.now c.args.key.now ≡ c.args.key.now ∷ [] =
    ap (λ w. keys_below w c.args.key.now) (nil_from_length c.args.way.now c.in-None.ensures.cases) in
    subst (λ l. length c.ready_child.new.nodes.items ≤ length old + missing_along old c.args.at l) (sym keys)
    (first_missing old c.ready_child.new.nodes.items c.args.at c.args.key.now [] c.ready_child.ensures.few c.ready_child.ensures.there)

pub returns-in_ok-node-in-None-clause-missing : goal.returns-in_ok-node-in-None-clause-missing
returns-in_ok-node-in-None-clause-missing t c =
    let old = c.args.nodes.now.items in
    let keys : keys_below c.args.way.now c.args.key.now ≡ c.args.key.now ∷ [] =
    ap (λ w. keys_below w c.args.key.now) (nil_from_length c.args.way.now c.in-None.ensures.cases) in
    subst (λ l. length c.ready_child.new.nodes.items ≤ length old + missing_along old c.args.at l) (sym keys)
    (first_missing old c.ready_child.new.nodes.items c.args.at c.args.key.now [] c.ready_child.ensures.few c.ready_child.ensures.there)

pub returns-in_err-below-in-Some-clause-missing : goal.returns-in_err-below-in-Some-clause-missing
returns-in_err-below-in-Some-clause-missing t c =
    let old = c.args.nodes.now.items in
    let key = key_of c.in-Some.next.now in
    let rest = keys_below c.in-Some.rest.now c.args.key.now in
    let keys : keys_below c.args.way.now c.args.key.now ≡ key ∷ rest =
    ap (λ w. keys_below w c.args.key.now) c.in-Some.ensures.cases.0 in
    subst (λ l. length c.ready_child-in-Some.new.nodes.items ≤ length old + missing_along old c.args.at l) (sym keys)
    (first_missing old c.ready_child-in-Some.new.nodes.items c.args.at key rest c.ready_child-in-Some.ensures.few
    (subst (λ k. IsSome (child_of old c.args.at k) → length c.ready_child-in-Some.new.nodes.items ≡ length old) c.key.ensures c.ready_child-in-Some.ensures.there))

pub returns-in_ok-below-in-Some-clause-missing : goal.returns-in_ok-below-in-Some-clause-missing
returns-in_ok-below-in-Some-clause-missing t c =
    let old = c.args.nodes.now.items in
    let between = c.ready_child-in-Some.new.nodes.items in
    let new = c.prepare_below.new.nodes.items in
    let key = key_of c.in-Some.next.now in
    let rest = keys_below c.in-Some.rest.now c.args.key.now in
    let below = c.in_ok-below-in-Some.below in
    let keys : keys_below c.args.way.now c.args.key.now ≡ key ∷ rest =
    ap (λ w. keys_below w c.args.key.now) c.in-Some.ensures.cases.0 in
    let child : child_of between c.args.at key ≡ Some below =
    ap (child_of between c.args.at) (sym c.key.ensures) ∙ c.in_ok-below-in-Some.ensures.child in
    let there = subst (λ k. IsSome (child_of old c.args.at k) → length between ≡ length old) c.key.ensures c.in_ok-below-in-Some.ensures.there in
    subst (λ l. length new ≤ length old + missing_along old c.args.at l) (sym keys)
    (step_missing old between new c.in_ok-below-in-Some.ensures.grows c.args.at below key rest child c.in_ok-below-in-Some.ensures.few there
    c.prepare_below.ensures.missing)
