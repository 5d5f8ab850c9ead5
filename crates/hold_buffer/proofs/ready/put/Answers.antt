use Rattle.std.proofs.Common.{inl, inr, Contains, sym, subst}
use Rattle.std.specs.Prelude.{insert}
use Rattle.crdt_rules.proofs.WalkLaws.{id_order}
use Rattle.list_laws.proofs.Members.{Contains-insert_new, Contains-insert_old, Contains-insert_cases}
use Rattle.list_laws.proofs.Rising.{IsRising-insert}
use Rattle.hold_buffer.proofs.ready.put.Goals as goal

pub returns-in-Err-clause-rising : goal.returns-in-Err-clause-rising
returns-in-Err-clause-rising c =
    let gap = rw c.deref.ensures.value at c.in-Err.ensures in
    rw (c.insert.ensures.items, c.unwrap.ensures) (IsRising-insert id_order (λ i. i) c.args.ready.now.items c.in-Err.at c.args.id.now c.requires.rising gap)

pub returns-in-Err-clause-members : goal.returns-in-Err-clause-members
returns-in-Err-clause-members c i =
    let old = c.args.ready.now.items in
    let at = c.in-Err.at in
    let id = c.args.id.now in
    rw (c.insert.ensures.items, c.unwrap.ensures) (
      (λ there. elim (Contains-insert_cases old at id there) [ inl here ↦ inl (sym here) | inr before ↦ inr before ]),
      (λ either.
          elim either [
            | inl same ↦ subst (Contains (insert old at id)) (sym same) (Contains-insert_new old at id)
            | inr before ↦ Contains-insert_old old at id before
          ]),
    )
