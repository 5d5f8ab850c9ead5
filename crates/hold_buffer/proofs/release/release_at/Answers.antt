use Rattle.std.proofs.Common.{◌≡◌, ◌∙◌, List, suc, length, take, drop, true, false, inl, inr, refl, sym, ap, subst, arith, true≢false}
use Rattle.doc_api.specs.Words.{id_cmp}
use Rattle.doc_rules.specs.Sorted.{IsRising}
use Rattle.list_laws.proofs.Members.{split_at}
use Rattle.hold_buffer.specs.Order.{ListsFree, is_free, without_id}
use Rattle.hold_buffer.specs.declared.entry.Entry.{Entry}
use Rattle.hold_buffer.proofs.FreeOnes.{ready-changed, waiting_more}
use Rattle.hold_buffer.proofs.Released.{new_split, new_read}
use Rattle.hold_buffer.proofs.release.release_at.Goals as goal

pub put-requires-clause-room : goal.put-requires-clause-room
put-requires-clause-room c =
    let order = c.args.order.now.items in
    let at = c.args.at in
    let t = c.index.result.now in
    let whole = split_at order at t c.requires.within c.index.ensures in
    let rising = subst (IsRising id_cmp (λ (u : Entry). u.id)) (sym whole) c.requires.rising in
    let lists = subst (λ (l : List Entry). ListsFree l c.args.ready.now) (sym whole) c.requires.ready in
    let few = waiting_more (take at order) (drop (suc at) order) t rising lists (sym c.if-is_empty.ensures) in
    omega (arith, few, ap length whole, c.requires.ready.room, c.args.ready.now.ok.0)

pub returns-then-is_empty-2-clause-ready : goal.returns-then-is_empty-2-clause-ready
returns-then-is_empty-2-clause-ready c =
    let order = c.args.order.now.items in
    let at = c.args.at in
    let id = c.args.id.now in
    let t = c.index.result.now in
    let whole = split_at order at t c.requires.within c.index.ensures in
    let lists = subst (λ (l : List Entry). ListsFree l c.args.ready.now) (sym whole) c.requires.ready in
    let read = new_read order c.arrive.new.order.items at t id c.requires.within c.index.ensures c.arrive.ensures in
    let free : is_free (without_id id t) ≡ true = ap is_free (sym (read c.index-2.result.now c.index-2.ensures)) ∙ sym c.if-is_empty-2.ensures in
    let name : c.index-then-is_empty-2.result.now.id ≡ t.id = ap (λ (u : Entry). u.id) (read c.index-then-is_empty-2.result.now c.index-then-is_empty-2.ensures) in
    subst (λ (l : List Entry). ListsFree l c.put.new.ready) (sym (new_split order c.arrive.new.order.items at t id c.requires.within c.index.ensures c.arrive.ensures))
    (ready-changed (take at order) (drop (suc at) order) t (without_id id t) lists (sym c.if-is_empty.ensures) refl c.put.ensures.rising
    (λ i. (
      (λ there. elim ((c.put.ensures.members i).0 there) [ inl same ↦ inl (free, same ∙ name) | inr old ↦ inr old ]),
      (λ either. elim either [ inl both ↦ (c.put.ensures.members i).1 (inl (both.1 ∙ sym name)) | inr old ↦ (c.put.ensures.members i).1 (inr old) ]),
    ))
    c.put.ensures.room)

pub returns-else-is_empty-2-clause-ready : goal.returns-else-is_empty-2-clause-ready
returns-else-is_empty-2-clause-ready c =
    let order = c.args.order.now.items in
    let at = c.args.at in
    let id = c.args.id.now in
    let t = c.index.result.now in
    let whole = split_at order at t c.requires.within c.index.ensures in
    let lists = subst (λ (l : List Entry). ListsFree l c.args.ready.now) (sym whole) c.requires.ready in
    let read = new_read order c.arrive.new.order.items at t id c.requires.within c.index.ensures c.arrive.ensures in
    let waits : is_free (without_id id t) ≡ false = ap is_free (sym (read c.index-2.result.now c.index-2.ensures)) ∙ sym c.if-is_empty-2.ensures in
    subst (λ (l : List Entry). ListsFree l c.args.ready.now) (sym (new_split order c.arrive.new.order.items at t id c.requires.within c.index.ensures c.arrive.ensures))
    (ready-changed (take at order) (drop (suc at) order) t (without_id id t) lists (sym c.if-is_empty.ensures) refl c.requires.ready.rising
    (λ i. ((λ there. inr there), (λ either. elim either [ inl both ↦ absurd (true≢false (sym both.0 ∙ waits)) | inr old ↦ old ])))
    (omega arith))
