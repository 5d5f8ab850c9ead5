use Rattle.std.proofs.Common.{◌≡◌, ◌<◌, ◌∙◌, sym, ap, subst, length, get_or, true, false, arith, Some}
use Rattle.std.proofs.lemmas.List.{get_or_default}
use Rattle.crdt_rules.specs.Same.{key_eq}
use Rattle.list_laws.proofs.Keys.{same}
use Rattle.key_map.specs.KeyOrder.{key_rank}
use Rattle.key_map.proofs.KeyOrder.{keys_ordered}
use Rattle.key_map.proofs.ByKeyLaws.{at_key-rank, at_key-missing, at_key-behind}
use Rattle.key_map.proofs.blocks.value_here.Goals.{else-index-entries-via-then-index-entries+else-is_same_key, else-index-entries-via-else-index-entries}
use Rattle.key_map.proofs.blocks.value_here.Goals as goal

pub returns-then-is_same_key-clause-found : goal.returns-then-is_same_key-clause-found
returns-then-is_same_key-clause-found g c =
    let entries = c.args.entries.now in
    let key = c.args.key.now in
    let at = c.args.index in
    let d = c.index-entries-index.result in
    let e = c.index-entries-index-then-is_same_key.result in
    let within : at < length entries = c.if-index-entries.true in
    let found : key_eq (get_or entries at d).0 key ≡ true = sym c.if-is_same_key.ensures in
    let here : (get_or entries at e).0 ≡ key = ap (λ x. x.0) (get_or_default entries at e d within) ∙ same keys_ordered (get_or entries at d).0 key found in
    (at, within, get_or_default entries at (key, (get_or entries at e).1) e within ∙ (λ i. (here i, (get_or entries at e).1)))

pub returns-then-is_same_key-clause-sought : goal.returns-then-is_same_key-clause-sought
returns-then-is_same_key-clause-sought g c = λ at.
    let entries = c.args.entries.now in
    let key = c.args.key.now in
    let d = c.index-entries-index.result in
    let within : c.args.index < length entries = c.if-index-entries.true in
    let found : key_eq (get_or entries (key_rank entries key) d).0 key ≡ true =
    subst (λ n. key_eq (get_or entries n d).0 key ≡ true) at (sym c.if-is_same_key.ensures) in
    ap (λ e. Some e.1) (get_or_default entries c.args.index c.index-entries-index-then-is_same_key.result d within ∙ ap (λ n. get_or entries n d) at)
    ∙ sym (at_key-rank entries key d (subst (λ n. n < length entries) at within) found)

pub returns-else-index-entries-clause-sought : goal.returns-else-index-entries-clause-sought
returns-else-index-entries-clause-sought g c = λ at.
    let entries = c.args.entries.now in
    let key = c.args.key.now in
    elim c.else-index-entries.branch [
      | else-index-entries-via-then-index-entries+else-is_same_key w ↦ sym (at_key-missing entries key w.index-entries-index.result c.requires
          (λ within. subst (λ n. key_eq (get_or entries n w.index-entries-index.result).0 key ≡ false) at (sym w.if-is_same_key.ensures)))
      | else-index-entries-via-else-index-entries w ↦ sym (at_key-behind entries key c.requires (omega (arith, at, w.if-index-entries.false)))
    ]
