-- Laws of entries, for those who keep a list by its contracts.
use Rattle.std.proofs.Common.{◌≡◌, ◌⊎◌, inl, inr, List, [], ◌∷◌, filter, Bool, true, false, if◌then◌else◌, Option, Some, None, Contains, refl, sym, ap, ◌∙◌}
use Rattle.std.specs.Ordering.{is_lt, is_eq}
use Rattle.doc_api.specs.Words.{Id, id_cmp}
use Rattle.crdt_rules.specs.Same.{id_eq}
use Rattle.list_laws.specs.Order.{place, place_behind, insert_after}
use Rattle.list_laws.proofs.Members.{Contains-nil, Contains-here, Contains-there, Contains-cases}
use Rattle.list_order.specs.Entries.{ids_of, present_of, all_absent, entry_cmp, absent, entry_of_reference, with_presence}

ids_of-place : (entries : List (Id × Bool)) (id : Id) → ids_of (place entry_cmp entries (absent id)) ≡ place id_cmp (ids_of entries) id
ids_of-place [] id = refl
ids_of-place (e ∷ entries) id = go (is_lt (id_cmp e.0 id)) (ids_of-place entries id)
  where
    go : (b : Bool) → ids_of (place entry_cmp entries (absent id)) ≡ place id_cmp (ids_of entries) id
        → ids_of (if b then absent id ∷ e ∷ entries else e ∷ place entry_cmp entries (absent id)) ≡ (if b then id ∷ ids_of (e ∷ entries) else e.0 ∷ place id_cmp (ids_of entries) id)
    go true ih = refl
    go false ih = ap (λ l. e.0 ∷ l) ih

ids_of-place_behind : (entries : List (Id × Bool)) (after id : Id) → ids_of (place_behind entry_cmp entries (absent after) (absent id)) ≡ place_behind id_cmp (ids_of entries) after id
ids_of-place_behind [] after id = refl
ids_of-place_behind (e ∷ entries) after id = go (is_eq (id_cmp e.0 after)) (ids_of-place_behind entries after id)
  where
    go : (b : Bool) → ids_of (place_behind entry_cmp entries (absent after) (absent id)) ≡ place_behind id_cmp (ids_of entries) after id
        → ids_of (if b then e ∷ place entry_cmp entries (absent id) else e ∷ place_behind entry_cmp entries (absent after) (absent id))
        ≡ (if b then e.0 ∷ place id_cmp (ids_of entries) id else e.0 ∷ place_behind id_cmp (ids_of entries) after id)
    go true ih = ap (λ l. e.0 ∷ l) (ids_of-place entries id)
    go false ih = ap (λ l. e.0 ∷ l) ih

-- an insertion places the id among the ids
pub ids_of-insert : (entries : List (Id × Bool)) (after : Option Id) (id : Id)
    → ids_of (insert_after entry_cmp entries (entry_of_reference after) (absent id)) ≡ insert_after id_cmp (ids_of entries) after id
ids_of-insert entries None id = ids_of-place entries id
ids_of-insert entries (Some after) id = ids_of-place_behind entries after id

-- nor does it count where nothing is told
pub ids_of-all_absent : (entries : List (Id × Bool)) → ids_of (all_absent entries) ≡ ids_of entries
ids_of-all_absent [] = refl
ids_of-all_absent (e ∷ entries) = ap (λ l. e.0 ∷ l) (ids_of-all_absent entries)

pub all_absent-with : (entries : List (Id × Bool)) (id : Id) (is : Bool) → all_absent (with_presence entries id is) ≡ all_absent entries
all_absent-with [] id is = refl
all_absent-with (e ∷ entries) id is = go (id_eq e.0 id) (all_absent-with entries id is)
  where
    go : (b : Bool) → all_absent (with_presence entries id is) ≡ all_absent entries
        → all_absent ((if b then (e.0, is) else e) ∷ with_presence entries id is) ≡ all_absent (e ∷ entries)
    go true ih = ap (λ l. absent e.0 ∷ l) ih
    go false ih = ap (λ l. absent e.0 ∷ l) ih

-- where each entry tells whether its id is so, the present ids are those that are so
pub present_of-holding : (holds : Id → Bool) (entries : List (Id × Bool)) → ((id : Id) (is : Bool) → Contains entries (id, is) → is ≡ holds id)
    → present_of entries ≡ filter holds (ids_of entries)
present_of-holding holds [] told = refl
present_of-holding holds (e ∷ entries) told =
    (λ i. ids_of (if told e.0 e.1 (Contains-here entries refl) i then e ∷ filter (λ x. x.1) entries else filter (λ x. x.1) entries))
    ∙ go (holds e.0) (present_of-holding holds entries (λ id is c. told id is (Contains-there e entries c)))
  where
    go : (b : Bool) → present_of entries ≡ filter holds (ids_of entries)
        → ids_of (if b then e ∷ filter (λ x. x.1) entries else filter (λ x. x.1) entries) ≡ (if b then e.0 ∷ filter holds (ids_of entries) else filter holds (ids_of entries))
    go true ih = ap (λ l. e.0 ∷ l) ih
    go false ih = ih

-- an entry after one id was told anew
pub entry-with : (entries : List (Id × Bool)) (id : Id) (is : Bool) (i : Id) (b : Bool) → Contains (with_presence entries id is) (i, b)
    → ((id_eq i id ≡ true) × (b ≡ is)) ⊎ ((id_eq i id ≡ false) × Contains entries (i, b))
entry-with [] id is i b c = absurd (Contains-nil c)
entry-with (e ∷ entries) id is i b c =
    elim (Contains-cases (if id_eq e.0 id then (e.0, is) else e) (with_presence entries id is) c) [
      | inl h ↦ here (id_eq e.0 id) refl h
      | inr there ↦ elim (entry-with entries id is i b there) [ inl told ↦ inl told | inr old ↦ inr (old.0, Contains-there e entries old.1) ]
    ]
  where
    here : (t : Bool) → id_eq e.0 id ≡ t → ◌≡◌ {A = Id × Bool} (if t then (e.0, is) else e) (i, b)
        → ((id_eq i id ≡ true) × (b ≡ is)) ⊎ ((id_eq i id ≡ false) × Contains (e ∷ entries) (i, b))
    here true f h = inl (ap (λ x. id_eq x.0 id) (sym h) ∙ f, ap (λ x. x.1) (sym h))
    here false f h = inr (ap (λ x. id_eq x.0 id) (sym h) ∙ f, Contains-here entries h)

-- an entry after an insertion
module _ (id i : Id) (b : Bool) where
  entry-place : (entries : List (Id × Bool)) → Contains (place entry_cmp entries (absent id)) (i, b) → ((i ≡ id) × (b ≡ false)) ⊎ Contains entries (i, b)
  entry-place [] c = elim (Contains-cases (absent id) [] c) [ inl h ↦ inl (ap (λ x. x.0) (sym h), ap (λ x. x.1) (sym h)) | inr none ↦ inr none ]
  entry-place (e ∷ entries) c = go (is_lt (id_cmp e.0 id)) c (entry-place entries)
    where
      go : (t : Bool) → Contains (if t then absent id ∷ e ∷ entries else e ∷ place entry_cmp entries (absent id)) (i, b)
          → (Contains (place entry_cmp entries (absent id)) (i, b) → ((i ≡ id) × (b ≡ false)) ⊎ Contains entries (i, b))
          → ((i ≡ id) × (b ≡ false)) ⊎ Contains (e ∷ entries) (i, b)
      go true h ih = elim (Contains-cases (absent id) (e ∷ entries) h) [ inl f ↦ inl (ap (λ x. x.0) (sym f), ap (λ x. x.1) (sym f)) | inr old ↦ inr old ]
      go false h ih =
          elim (Contains-cases e (place entry_cmp entries (absent id)) h) [
            | inl f ↦ inr (Contains-here entries f)
            | inr there ↦ elim (ih there) [ inl new ↦ inl new | inr old ↦ inr (Contains-there e entries old) ]
          ]

  entry-place_behind : (entries : List (Id × Bool)) (after : Id) → Contains (place_behind entry_cmp entries (absent after) (absent id)) (i, b)
      → ((i ≡ id) × (b ≡ false)) ⊎ Contains entries (i, b)
  entry-place_behind [] after c = inr c
  entry-place_behind (e ∷ entries) after c = go (is_eq (id_cmp e.0 after)) c (entry-place entries) (entry-place_behind entries after)
    where
      go : (t : Bool) → Contains (if t then e ∷ place entry_cmp entries (absent id) else e ∷ place_behind entry_cmp entries (absent after) (absent id)) (i, b)
          → (Contains (place entry_cmp entries (absent id)) (i, b) → ((i ≡ id) × (b ≡ false)) ⊎ Contains entries (i, b))
          → (Contains (place_behind entry_cmp entries (absent after) (absent id)) (i, b) → ((i ≡ id) × (b ≡ false)) ⊎ Contains entries (i, b))
          → ((i ≡ id) × (b ≡ false)) ⊎ Contains (e ∷ entries) (i, b)
      go true h placed ih =
          elim (Contains-cases e (place entry_cmp entries (absent id)) h) [
            | inl f ↦ inr (Contains-here entries f)
            | inr there ↦ elim (placed there) [ inl new ↦ inl new | inr old ↦ inr (Contains-there e entries old) ]
          ]
      go false h placed ih =
          elim (Contains-cases e (place_behind entry_cmp entries (absent after) (absent id)) h) [
            | inl f ↦ inr (Contains-here entries f)
            | inr there ↦ elim (ih there) [ inl new ↦ inl new | inr old ↦ inr (Contains-there e entries old) ]
          ]

  pub entry-insert : (entries : List (Id × Bool)) (after : Option Id) → Contains (insert_after entry_cmp entries (entry_of_reference after) (absent id)) (i, b)
      → ((i ≡ id) × (b ≡ false)) ⊎ Contains entries (i, b)
  entry-insert entries None c = entry-place entries c
  entry-insert entries (Some after) c = entry-place_behind entries after c
