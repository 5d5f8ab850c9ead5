use Rattle.std.proofs.Common.{◌≡◌, ◌≤◌, ◌+◌, [], length, sym, ap, subst}
use Rattle.std.proofs.lemmas.List.{nil_from_length}
use Rattle.doc_nodes.specs.Walk.{root}
use Rattle.doc_nodes.specs.PresenceAlong.{keys_below, keys_to}
use Rattle.doc_nodes.specs.Growth.{IsMade, missing_along}
use Rattle.doc_nodes.proofs.Made.{made_end}
use Rattle.doc_nodes.proofs.Missing.{same_missing}
use Rattle.doc_nodes.proofs.growth.prepare_way.Goals as goal

pub returns-in-None-clause-ok : goal.returns-in-None-clause-ok
returns-in-None-clause-ok c =
    let new = c.reserve_presence.new.nodes.items in
    let keys : keys_to c.args.path.now c.args.key.now ≡ [] =
    ap (λ p. keys_to p c.args.key.now) (nil_from_length c.args.path.now c.in-None.ensures.cases) in
    subst (IsMade new root) (sym keys)
    (made_end new root c.in_ok-reserve_presence.ensures.room)

pub returns-in-Some-clause-missing : goal.returns-in-Some-clause-missing
returns-in-Some-clause-missing c =
    let old = c.args.nodes.now.items in
    let between = c.reserve_presence.new.nodes.items in
    let new = c.prepare_below.new.nodes.items in
    let keys : keys_to c.args.path.now c.args.key.now ≡ keys_below c.in-Some.way.now c.args.key.now =
    ap (λ p. keys_to p c.args.key.now) c.in-Some.ensures.cases.0 in
    subst (λ l. length new ≤ length old + missing_along old root l) (sym keys)
    (same_missing old between new c.in_ok-reserve_presence.ensures.grows c.in_ok-reserve_presence.ensures.none root
    (keys_below c.in-Some.way.now c.args.key.now) c.prepare_below.ensures.missing)
