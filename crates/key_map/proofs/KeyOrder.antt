-- Keys are totally ordered.
use Rattle.std.proofs.Common.{◌≡◌, ℕ, List, refl, sym, ap, ◌∙◌}
use Rattle.std.specs.Ordering.{nat_cmp, is_lt, is_eq, ordering_then}
use Rattle.std.specs.Cmp.{IsTotalOrder, nat_cmp_total, then_total}
use Rattle.std.specs.Cmp.Lexicographic.{nat_list_cmp_total}
use Rattle.std.proofs.lemmas.Cmp.{on_total}
use Rattle.std.proofs.lemmas.Map.Text.{is_eq-slice_cmp}
use Rattle.std.specs.Cmp.Lexicographic.{slice_cmp}
use Rattle.std.specs.declared.cmp.Ordering.{Ordering}
use Rattle.std.specs.declared.cmp.Ordering.TheVariants.{Less, Equal, Greater}
use Rattle.op_core.specs.declared.cursor.Key.{Key}
use Rattle.op_core.specs.declared.cursor.Key.TheVariants.{Doc, Text, Element, Head}
use Rattle.crdt_rules.specs.Same.{key_eq}
use Rattle.crdt_rules.proofs.SameLaws.{key_decides}
use Rattle.crdt_rules.proofs.IdOrder.{is_eq-id_cmp}
use Rattle.crdt_rules.proofs.WalkLaws.{id_order}
use Rattle.list_laws.proofs.Keys.{IsKeyOrder}
use Rattle.key_map.specs.KeyOrder.{kind_of, key_text, element_id, key_cmp}

pub key_order : IsTotalOrder key_cmp
key_order = then_total (on_total kind_of nat_cmp_total) (then_total (on_total key_text nat_list_cmp_total) (on_total element_id id_order.total))

-- keys that compare alike are one
pub is_eq-key_cmp : (a b : Key) → is_eq (key_cmp a b) ≡ key_eq a b
is_eq-key_cmp Doc Doc = refl
is_eq-key_cmp Doc Head = refl
is_eq-key_cmp Doc (Text b) = refl
is_eq-key_cmp Doc (Element b) = refl
is_eq-key_cmp Head Doc = refl
is_eq-key_cmp Head Head = refl
is_eq-key_cmp Head (Text b) = refl
is_eq-key_cmp Head (Element b) = refl
is_eq-key_cmp (Text a) Doc = refl
is_eq-key_cmp (Text a) Head = refl
is_eq-key_cmp (Text a) (Text b) = then_equal (slice_cmp _ a b) ∙ is_eq-slice_cmp a b
  where
    then_equal : (o : Ordering) → is_eq (ordering_then o Equal) ≡ is_eq o
    then_equal Less = refl
    then_equal Equal = refl
    then_equal Greater = refl
is_eq-key_cmp (Text a) (Element b) = refl
is_eq-key_cmp (Element a) Doc = refl
is_eq-key_cmp (Element a) Head = refl
is_eq-key_cmp (Element a) (Text b) = refl
is_eq-key_cmp (Element a) (Element b) = is_eq-id_cmp a b

-- keys go by their order and their test of equality
pub keys_ordered : IsKeyOrder key_eq key_cmp
keys_ordered = record {
  order = record { total = key_order; exact = λ a b e. key_decides.same a b (sym (is_eq-key_cmp a b) ∙ ap is_eq e) };
  alike = is_eq-key_cmp;
}

-- texts are compared by their bytes
pub text_lt : (s t : List ℕ) → is_lt (slice_cmp nat_cmp s t) ≡ is_lt (key_cmp (Text s) (Text t))
text_lt s t = go (slice_cmp nat_cmp s t)
  where
    go : (o : Ordering) → is_lt o ≡ is_lt (ordering_then o Equal)
    go Less = refl
    go Equal = refl
    go Greater = refl
