-- Fronts: their order, and what one says of a replica after a change.
use Rattle.std.proofs.Common.{◌≡◌, ◌≢◌, ℕ, ◌<◌, ◌⊎◌, inl, inr, zero, suc, List, [], ◌∷◌, ◌++◌, length, take, drop, get_or, set, Bool, true, false, bytes_eq, Some, None, if◌then◌else◌, Contains, refl, sym, ap, subst, ◌∙◌, arith, Less}
use Rattle.std.specs.Prelude.{insert}
use Rattle.std.proofs.lemmas.Bool.{false_from_ne_true}
use Rattle.std.proofs.lemmas.List.{take-append-drop}
use Rattle.std.proofs.lemmas.List.Elements.{Contains-get_or}
use Rattle.std.proofs.lemmas.Map.Text.{is_eq-slice_cmp}
use lib.Pointwise.{bytes_decides}
use Rattle.lamport_id.specs.Order.{name_cmp}
use Rattle.crdt_rules.specs.Dependencies.{entry_of}
use Rattle.op_log.specs.Front.{PutsEntry}
use Rattle.list_laws.specs.Sorted.{KeysRise, get_by, IsIndexOf, IsGap}
use Rattle.list_laws.proofs.Members.{Contains-here, Contains-there, Contains-cases, Contains-take}
use Rattle.list_laws.proofs.Keys.{IsKeyOrder, less≢equal}
use Rattle.list_laws.proofs.Bisection.{get-own}
use Rattle.list_laws.proofs.Rising.{gap_none, IsRising-insert}
use Rattle.doc_rules.proofs.OneAnswer.{name_order}

abbrev pub NamesRise : {X : Type 0} → List (List ℕ × X) → Type 0
NamesRise pairs = KeysRise name_cmp pairs

-- names go by their order and their test of equality
pub names_ordered : IsKeyOrder bytes_eq name_cmp
names_ordered = record { order = name_order; alike = is_eq-slice_cmp }

pub names_differ : (a b : List ℕ) → a ≢ b → bytes_eq a b ≡ false
names_differ a b other = false_from_ne_true (bytes_eq a b) (λ h. other ((bytes_decides a b).0 h))

module _ {X : Type 0} where
  pub get_by-place : (pairs : List (List ℕ × X)) (name : List ℕ) (i : ℕ) (d : List ℕ × X) → NamesRise pairs → IsIndexOf name_cmp (λ e. e.0) pairs name i
      → get_by bytes_eq pairs name ≡ Some (get_or pairs i d).1
  get_by-place pairs name i d r place =
      subst (λ n. get_by bytes_eq pairs n ≡ Some (get_or pairs i d).1) (place.has_key d)
      (get-own names_ordered pairs r (get_or pairs i d) (Contains-get_or pairs i d place.within))

  get_by-none : (pairs : List (List ℕ × X)) (name : List ℕ) → ((e : List ℕ × X) → Contains pairs e → e.0 ≢ name) → get_by bytes_eq pairs name ≡ None
  get_by-none [] name other = refl
  get_by-none (e ∷ pairs) name other =
      rw (names_differ e.0 name (other e (Contains-here pairs refl))) (get_by-none pairs name (λ f c. other f (Contains-there e pairs c)))

  pub get_by-gap : (pairs : List (List ℕ × X)) (name : List ℕ) (i : ℕ) → IsGap name_cmp (λ e. e.0) pairs name i → get_by bytes_eq pairs name ≡ None
  get_by-gap pairs name i gap = get_by-none pairs name (gap_none name_order (λ e. e.0) pairs name i gap)

-- a front's entry is what stands at the name
pub get_by-entry_of : (front : List (List ℕ × ℕ)) (name : List ℕ) → get_by bytes_eq front name ≡ entry_of front name
get_by-entry_of [] name = refl
get_by-entry_of (e ∷ front) name = ap (λ o. if bytes_eq e.0 name then Some e.1 else o) (get_by-entry_of front name)

-- of two names of which at most one is looked for, either may be looked at first
swap_tests : {X : Type 0} (a b : Bool) (x y z : X) → ¬ ((a ≡ true) × (b ≡ true)) → (if a then x else if b then y else z) ≡ (if b then y else if a then x else z)
swap_tests true true x y z not_both = absurd (not_both (refl, refl))
swap_tests true false x y z not_both = refl
swap_tests false b x y z not_both = refl

-- what pairs keep for a name after a change
module _ {X : Type 0} where
  behind_other : (e : List ℕ × X) (name n : List ℕ) → e.0 ≢ name → ¬ ((bytes_eq e.0 n ≡ true) × (bytes_eq name n ≡ true))
  behind_other e name n other both = other ((bytes_decides e.0 n).0 both.0 ∙ sym ((bytes_decides name n).0 both.1))

  put_between : (us vs : List (List ℕ × X)) (name : List ℕ) (c : X) → ((e : List ℕ × X) → Contains us e → e.0 ≢ name) → PutsEntry (us ++ vs) (us ++ (name, c) ∷ vs) name c
  put_between [] vs name c other n = refl
  put_between (e ∷ us) vs name c other n =
      ap (λ l. if bytes_eq e.0 n then Some e.1 else l) (put_between us vs name c (λ f h. other f (Contains-there e us h)) n)
      ∙ swap_tests (bytes_eq e.0 n) (bytes_eq name n) (Some e.1) (Some c) (get_by bytes_eq (us ++ vs) n) (behind_other e name n (other e (Contains-here us refl)))

  pub put_in_gap : (front : List (List ℕ × X)) (name : List ℕ) (c : X) (i : ℕ) → IsGap name_cmp (λ e. e.0) front name i → PutsEntry front (insert front i (name, c)) name c
  put_in_gap front name c i gap =
      subst (λ l. PutsEntry l (insert front i (name, c)) name c) (take-append-drop i front)
      (put_between (take i front) (drop i front) name c (λ e h. gap_none name_order (λ f. f.0) front name i gap e (Contains-take i front h)))

  within_rest : (front : List (List ℕ × X)) (i : ℕ) → suc i < suc (length front) → i < length front
  within_rest front i h = omega arith

  pub put_at_place : (front : List (List ℕ × X)) (name : List ℕ) (c : X) (i : ℕ) → NamesRise front → IsIndexOf name_cmp (λ e. e.0) front name i
      → PutsEntry front (set front i (name, c)) name c
  put_at_place [] name c i r place n = let none : i < 0 = place.within in absurd (omega arith)
  put_at_place (e ∷ front) name c zero r place n = same (bytes_eq name n) refl
    where
      same : (b : Bool) → bytes_eq name n ≡ b → (if b then Some c else get_by bytes_eq front n) ≡ (if b then Some c else if bytes_eq e.0 n then Some e.1 else get_by bytes_eq front n)
      same true is = refl
      same false is = rw (ap (λ m. bytes_eq m n) (place.has_key e) ∙ is) refl
  put_at_place (e ∷ front) name c (suc i) r place n =
      let rest : IsIndexOf name_cmp (λ f. f.0) front name i = record { within = within_rest front i place.within; has_key = place.has_key } in
      ap (λ l. if bytes_eq e.0 n then Some e.1 else l) (put_at_place front name c i r.1 rest n)
      ∙ swap_tests (bytes_eq e.0 n) (bytes_eq name n) (Some e.1) (Some c) (get_by bytes_eq front n) (behind_other e name n other)
    where
      other : e.0 ≢ name
      other same =
          less≢equal name_order e.0 name
          (subst (λ m. name_cmp e.0 m ≡ Less) (place.has_key e) (r.0 (get_or front i e) (Contains-get_or front i e (within_rest front i place.within)))) same

  pub NamesRise-set : (front : List (List ℕ × X)) (name : List ℕ) (c : X) (i : ℕ) → NamesRise front → IsIndexOf name_cmp (λ e. e.0) front name i → NamesRise (set front i (name, c))
  NamesRise-set [] name c i r place = r
  NamesRise-set (e ∷ front) name c zero r place =
      ((λ y h. subst (λ m. name_cmp m y.0 ≡ Less) (place.has_key e) (r.0 y h)), r.1)
  NamesRise-set (e ∷ front) name c (suc i) r place =
      let rest : IsIndexOf name_cmp (λ f. f.0) front name i = record { within = within_rest front i place.within; has_key = place.has_key } in
      ((λ y h. first y (set_cases front i rest.within y h) rest), NamesRise-set front name c i r.1 rest)
    where
      first : (y : List ℕ × X) → ((name, c) ≡ y) ⊎ Contains front y → IsIndexOf name_cmp (λ f. f.0) front name i → name_cmp e.0 y.0 ≡ Less
      first y (inl here) rest =
          subst (λ m. name_cmp e.0 m ≡ Less) (rest.has_key e ∙ ap (λ z. z.0) here) (r.0 (get_or front i e) (Contains-get_or front i e rest.within))
      first y (inr there) rest = r.0 y there

      set_cases : (xs : List (List ℕ × X)) (k : ℕ) → k < length xs → (y : List ℕ × X) → Contains (set xs k (name, c)) y → ((name, c) ≡ y) ⊎ Contains xs y
      set_cases [] k below y h = absurd (omega arith)
      set_cases (x ∷ xs) zero below y h = elim (Contains-cases (name, c) xs h) [ inl here ↦ inl here | inr there ↦ inr (Contains-there x xs there) ]
      set_cases (x ∷ xs) (suc k) below y h =
          elim (Contains-cases x (set xs k (name, c)) h) [
            | inl here ↦ inr (Contains-here xs here)
            | inr there ↦ elim (set_cases xs k (omega arith) y there) [ inl here ↦ inl here | inr old ↦ inr (Contains-there x xs old) ]
          ]

  pub NamesRise-insert : (front : List (List ℕ × X)) (name : List ℕ) (c : X) (i : ℕ) → NamesRise front → IsGap name_cmp (λ e. e.0) front name i → NamesRise (insert front i (name, c))
  NamesRise-insert front name c i r gap = IsRising-insert name_order (λ e. e.0) front i (name, c) r gap
