-- The last entry of an index, which is looked at first.
use Rattle.std.proofs.Common.{◌≡◌, ◌+◌, ◌-◌, ℕ, zero, suc, nat_eq, List, length, get_or, false, true≢false, Less, Equal, sym, ap, ◌∙◌, arith}
use Rattle.std.proofs.lemmas.List.{get_or_default}
use Rattle.std.specs.Ordering.{is_lt, is_eq}
use Rattle.lamport_id.specs.Order.{id_cmp}
use Rattle.lamport_id.specs.declared.id.Id.{Id}
use Rattle.presence_set.specs.ById.{rank, IsAscending}
use Rattle.presence_set.proofs.Ascending.{ids_ordered}
use Rattle.presence_set.proofs.ByIdLaws.{not_less_itself}
use Rattle.list_laws.proofs.Bisection.{lesser_first, rank_is}
use Rattle.list_laws.proofs.Rising.{rising_index}
use Rattle.list_laws.proofs.Keys.{same}

pub one_behind : (n : ℕ) → nat_eq n 0 ≡ false → n ≡ n - 1 + 1
one_behind zero e = absurd (true≢false e)
one_behind (suc n) e = omega arith

module _ {X : Type 0} (index : List (Id × X)) (id : Id) (rising : IsAscending index) (last : ℕ) (is_last : length index ≡ last + 1) where
  -- every entry stands before an id that is greater than the last
  pub rank_behind : (d : Id × X) → id_cmp (get_or index last d).0 id ≡ Less → length index ≡ rank index id
  rank_behind d less =
      rank_is ids_ordered index id (length index) (omega arith) (
        λ k e low high. lesser_first ids_ordered index id rising k last e (omega (arith, high, is_last)) (omega (arith, is_last)) (ap (λ x. is_lt (id_cmp x.0 id)) (get_or_default index last e d (omega (arith, is_last))) ∙ ap is_lt less),
        λ k e low high. absurd (omega (arith, low, high)),
      )

  -- and all but the last before the last
  pub rank_last : (d : Id × X) → id_cmp (get_or index last d).0 id ≡ Equal → last ≡ rank index id
  rank_last d equal =
      let here : (e : Id × X) → (get_or index last e).0 ≡ id =
      λ e. ap (λ x. x.0) (get_or_default index last e d (omega (arith, is_last))) ∙ same ids_ordered (get_or index last d).0 id (sym (ids_ordered.alike (get_or index last d).0 id) ∙ ap is_eq equal) in
      rank_is ids_ordered index id last (omega (arith, is_last)) (
        λ k e low high. ap (λ i. is_lt (id_cmp (get_or index k e).0 i)) (sym (here e)) ∙ ap is_lt (rising_index ids_ordered.order (λ x. x.0) index k last e rising high (omega (arith, is_last))),
        λ k e low high.
            let at : k ≡ last = omega (arith, low, high, is_last) in
            ap (λ j. is_lt (id_cmp (get_or index j e).0 id)) at ∙ ap (λ i. is_lt (id_cmp i id)) (here e) ∙ not_less_itself id,
      )
