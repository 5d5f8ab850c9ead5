-- Where the entry of an id stands in a list that is in id order.
use Rattle.std.proofs.Common.{◌≡◌, ◌<◌, ◌≤◌, ◌⊎◌, ℕ, inl, inr, List, [], ◌∷◌, length, get_or, Bool, true, false, Some, None, refl, sym, ap, subst, ◌∙◌, arith}
use Rattle.std.specs.Ordering.{is_lt}
use Rattle.std.proofs.lemmas.Bool.{cases_lt}
use Rattle.std.proofs.lemmas.List.{get_or_default}
use Rattle.std.proofs.lemmas.List.Elements.{Contains-get_or}
use Rattle.doc_api.specs.Words.{Id, id_cmp}
use Rattle.crdt_rules.specs.Same.{id_eq}
use Rattle.presence_set.specs.ById.{get, rank, IsAscending}
use Rattle.presence_set.proofs.Ascending.{ids_ordered}
use Rattle.presence_set.proofs.ByIdLaws.{not_less_itself}
use Rattle.list_laws.specs.Sorted.{IsIndexOf}
use Rattle.list_laws.proofs.Keys.{same, not_less_back}
use Rattle.list_laws.proofs.Bisection.{rank_is, get-missing, get-own}
use Rattle.list_laws.proofs.Rising.{rising_index}

module _ {X : Type 0} where
  -- the entry at this place has the id
  abbrev pub IsOf : List (Id × X) → Id → ℕ → Type 0
  IsOf entries id at = IsIndexOf id_cmp (λ (e : Id × X). e.0) entries id at

  -- all entries before it have a lesser id, and no other has
  pub rank_place : (entries : List (Id × X)) (id : Id) (at : ℕ) → IsAscending entries → IsOf entries id at → at ≡ rank entries id
  rank_place entries id at rising here =
      rank_is ids_ordered entries id at (omega (arith, here.within)) (
        λ k e low high. ap (λ i. is_lt (id_cmp (get_or entries k e).0 i)) (sym (here.has_key e)) ∙ ap is_lt (rising_index ids_ordered.order (λ x. x.0) entries k at e rising high here.within),
        λ k e low high. ap (λ i. is_lt (id_cmp (get_or entries k e).0 i)) (sym (here.has_key e)) ∙ not_before k e (cases_lt at k) low high,
      )
    where
      not_before : (k : ℕ) (e : Id × X) → (at < k) ⊎ (k ≤ at) → at ≤ k → k < length entries → is_lt (id_cmp (get_or entries k e).0 (get_or entries at e).0) ≡ false
      not_before k e (inl behind) low high =
          not_less_back ids_ordered.order (get_or entries at e).0 (get_or entries k e).0 (rising_index ids_ordered.order (λ x. x.0) entries at k e rising behind high)
      not_before k e (inr before) low high =
          let is : k ≡ at = omega (arith, low, before) in
          ap (λ j. is_lt (id_cmp (get_or entries j e).0 (get_or entries at e).0)) is ∙ not_less_itself (get_or entries at e).0

  -- its value is what stands at the id
  pub get_place : (entries : List (Id × X)) (id : Id) (at : ℕ) (d : Id × X) → IsAscending entries → IsOf entries id at → get entries id ≡ Some (get_or entries at d).1
  get_place entries id at d rising here =
      subst (λ i. get entries i ≡ Some (get_or entries at d).1) (here.has_key d) (get-own ids_ordered entries rising (get_or entries at d) (Contains-get_or entries at d here.within))

  -- and nothing stands there where no entry has it
  pub get_no_place : (entries : List (Id × X)) (id : Id) → IsAscending entries → ¬ (IsOf entries id (rank entries id)) → get entries id ≡ None
  get_no_place [] id rising none = refl
  get_no_place (e ∷ entries) id rising none =
      get-missing ids_ordered (e ∷ entries) id e rising (λ inside. other (id_eq (get_or (e ∷ entries) at e).0 id) refl inside)
    where
      at : ℕ
      at = rank (e ∷ entries) id

      other : (b : Bool) → id_eq (get_or (e ∷ entries) at e).0 id ≡ b → at < length (e ∷ entries) → id_eq (get_or (e ∷ entries) at e).0 id ≡ false
      other false is inside = is
      other true is inside = absurd (none (record {
        within = inside;
        has_key = λ d. ap (λ x. x.0) (get_or_default (e ∷ entries) at d e inside) ∙ same ids_ordered (get_or (e ∷ entries) at e).0 id is;
      }))
