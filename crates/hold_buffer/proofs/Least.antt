-- Whether an id goes in front of all entries, or is that of the first.
use Rattle.std.proofs.Common.{◌≡◌, ◌<◌, ◌≤◌, inl, inr, List, [], ◌∷◌, length, get_or, Less, Equal, sym, ap, subst, ◌∙◌, arith}
use Rattle.doc_api.specs.Words.{id_cmp, Id}
use Rattle.crdt_rules.proofs.WalkLaws.{id_order}
use Rattle.doc_rules.specs.Sorted.{IsRising}
use Rattle.list_laws.proofs.Members.{Contains-nil, Contains-cases}
use Rattle.list_laws.specs.Sorted.{IsIndexOf, IsGap}
use Rattle.hold_buffer.specs.declared.entry.Entry.{Entry}

pub only_gap : (order : List Entry) (id : Id) → length order ≤ 0 → IsGap id_cmp (λ t. t.id) order id 0
only_gap [] id none = record {
  within = omega arith;
  smaller_before = λ u c. absurd (Contains-nil c);
  greater_behind = λ u c. absurd (Contains-nil c);
}
only_gap (t ∷ order) id none = absurd (omega (arith, none))

pub least_gap : (order : List Entry) (t : Entry) (id : Id) → IsRising id_cmp (λ u. u.id) order → 0 < length order → t ≡ get_or order 0 t → id_cmp id t.id ≡ Less
    → IsGap id_cmp (λ u. u.id) order id 0
least_gap [] t id rising within read less = absurd (omega (arith, within))
least_gap (x ∷ order) t id rising within read less = record {
  within = omega arith;
  smaller_before = λ u c. absurd (Contains-nil c);
  greater_behind = λ u c.
      let first = subst (λ (v : Entry). id_cmp id v.id ≡ Less) read less in
      elim (Contains-cases x order c) [
        | inl here ↦ subst (λ (v : Entry). id_cmp id v.id ≡ Less) here first
        | inr there ↦ id_order.total.trans id x.id u.id first (rising.0 u there)
      ];
}

pub least_place : (order : List Entry) (t : Entry) (id : Id) → 0 < length order → t ≡ get_or order 0 t → id_cmp id t.id ≡ Equal → IsIndexOf id_cmp (λ u. u.id) order id 0
least_place [] t id within read same = absurd (omega (arith, within))
least_place (x ∷ order) t id within read same = record {
  within = within;
  has_key = λ d. ap (λ (u : Entry). u.id) (sym read) ∙ sym (id_order.exact id t.id same);
}
