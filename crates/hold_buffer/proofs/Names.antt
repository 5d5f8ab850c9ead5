-- Ids of different replicas, by rising name.
use Rattle.std.proofs.Common.{◌≡◌, ◌≢◌, ◌++◌, ◌∷◌, inl, inr, ℕ, ◌<◌, suc, List, [], ◌+◌, length, take, drop, set, get_or, refl, map, filter, not, Bool, true, false, Contains, sym, ap, ◌∙◌, Less, subst, arith, true≢false, length-append}
use Rattle.std.proofs.lemmas.Bool.Decides.{nat_tests}
use Rattle.std.proofs.lemmas.List.{set_split}
use Rattle.std.proofs.lemmas.List.Elements.{filter-append, Contains-append_left, Contains-append_right, Contains-append_cases}
use Rattle.list_laws.proofs.Members.{Contains-here, Contains-there, Contains-cases, map-from, split_at}
use Rattle.list_laws.proofs.Filters.{filter-failed, filter-passed, filter-Contains}
use Rattle.doc_api.specs.Words.{name_cmp, Id}
use Rattle.version_vector.specs.Front.{id_of, is_ascending}
use Rattle.crdt_rules.specs.Same.{id_eq}
use Rattle.crdt_rules.proofs.SameLaws.{id_decides}
use Rattle.doc_rules.specs.Sorted.{IsRising}
use Rattle.doc_rules.proofs.OneAnswer.{name_order}
use Rattle.doc_rules.proofs.WholeFront.{rising_from_ascending}
use Rattle.list_laws.specs.Sorted.{IsGap}
use Rattle.list_laws.proofs.Keys.{less≢equal}
use Rattle.list_laws.proofs.Rising.{gap_none, IsRising-split, rising-filter}
use Rattle.hold_buffer.specs.Missing.{is_left, left_of, arrived}
use Rattle.hold_buffer.proofs.Waiting.{others_kept}

-- the ids of a front that ascends
pub rising_ids : (front : List (List ℕ × ℕ)) → is_ascending front ≡ true → IsRising name_cmp (λ i. i.replica) (map id_of front)
rising_ids front ascends = go front (rising_from_ascending front ascends)
  where
    go : (es : List (List ℕ × ℕ)) → IsRising name_cmp (λ e. e.0) es → IsRising name_cmp (λ i. i.replica) (map id_of es)
    go [] rising = tt
    go (e ∷ es) rising = (
      (λ i c. let r = map-from id_of es c in subst (λ (j : Id). name_cmp e.0 j.replica ≡ Less) r.2 (rising.0 r.0 r.1)),
      go es rising.1,
    )

module _ (us vs : List Id) (x id : Id) (rising : IsRising name_cmp (λ i. i.replica) (us ++ x ∷ vs)) (name : x.replica ≡ id.replica) where
  -- the others are of other replicas
  others : (y : Id) → Contains (us ++ vs) y → y ≢ id
  others y c same =
      let parts = IsRising-split name_order (λ (i : Id). i.replica) us vs x rising in
      let replica : y.replica ≡ x.replica = ap (λ (i : Id). i.replica) same ∙ sym name in
      elim (Contains-append_cases us vs y c) [
        | inl left ↦ less≢equal name_order y.replica x.replica (parts.0 y left) replica
        | inr right ↦ less≢equal name_order x.replica y.replica (parts.1 y right) (sym replica)
      ]

  pub forgotten : x ≡ id → us ++ vs ≡ filter (λ i. not (id_eq i id)) (us ++ x ∷ vs)
  forgotten is =
      let test : Id → Bool = λ i. not (id_eq i id) in
      sym (others_kept (λ (i : Id). i) id (us ++ vs) others)
      ∙ filter-append test us vs
      ∙ sym (filter-failed test us x vs (ap not (subst (λ (j : Id). id_eq j id ≡ true) (sym is) (id_decides.itself id))))

-- an id that is not there is not missed
pub none_forgotten : (ids : List Id) (id : Id) → ¬ (Contains ids id) → ids ≡ filter (λ i. not (id_eq i id)) ids
none_forgotten ids id none = sym (others_kept (λ (i : Id). i) id ids (λ y c same. none (subst (Contains ids) same c)))

-- a replica has one id among them
pub other_counter : (ids : List Id) (id : Id) (at : ℕ) (x : Id) → IsRising name_cmp (λ i. i.replica) ids → at < length ids → x ≡ get_or ids at x → x.replica ≡ id.replica
    → x ≢ id → ¬ (Contains ids id)
other_counter ids id at x rising within here name other c =
    let whole : take at ids ++ x ∷ drop (suc at) ids ≡ ids = split_at ids at x within here in
    let rise = subst (IsRising name_cmp (λ (i : Id). i.replica)) (sym whole) rising in
    elim (Contains-append_cases (take at ids) (x ∷ drop (suc at) ids) id (subst (λ l. Contains l id) (sym whole) c)) [
      | inl left ↦ others (take at ids) (drop (suc at) ids) x id rise name id (Contains-append_left (take at ids) (drop (suc at) ids) id left) refl
      | inr right ↦ elim (Contains-cases x (drop (suc at) ids) right) [
        | inl same ↦ other same
        | inr there ↦ others (take at ids) (drop (suc at) ids) x id rise name id (Contains-append_right (take at ids) (drop (suc at) ids) id there) refl
      ]
    ]

pub gap_absent : (ids : List Id) (id : Id) (at : ℕ) → IsGap name_cmp (λ i. i.replica) ids id.replica at → ¬ (Contains ids id)
gap_absent ids id at gap c = gap_none name_order (λ (i : Id). i.replica) ids id.replica at gap id c refl

-- ---- an id is cleared at its place

not_left : (i : Id) → is_left (arrived i) ≡ false
not_left i = grind (arith, nat_tests)

rising-cleared : (us vs : List Id) (x : Id) → IsRising name_cmp (λ i. i.replica) (us ++ x ∷ vs) → IsRising name_cmp (λ i. i.replica) (us ++ arrived x ∷ vs)
rising-cleared [] vs x rising = rising
rising-cleared (u ∷ us) vs x rising = (
  (λ y c.
      elim (Contains-append_cases us (arrived x ∷ vs) y c) [
        | inl left ↦ rising.0 y (Contains-append_left us (x ∷ vs) y left)
        | inr right ↦ elim (Contains-cases (arrived x) vs right) [
          | inl here ↦ subst (λ (z : Id). name_cmp u.replica z.replica ≡ Less) here (rising.0 x (Contains-append_right us (x ∷ vs) x (Contains-here vs refl)))
          | inr there ↦ rising.0 y (Contains-append_right us (x ∷ vs) y (Contains-there x vs there))
        ]
      ]),
  rising-cleared us vs x rising.1,
)

module _ (ids : List Id) (id : Id) (at : ℕ) (rising : IsRising name_cmp (λ i. i.replica) ids) (within : at < length ids) (here : id ≡ get_or ids at id) (left : is_left id ≡ true) where
  whole : take at ids ++ id ∷ drop (suc at) ids ≡ ids
  whole = split_at ids at id within here

  around : left_of (take at ids) ++ id ∷ left_of (drop (suc at) ids) ≡ left_of ids
  around = sym (filter-passed is_left (take at ids) id (drop (suc at) ids) left) ∙ ap left_of whole

  now : left_of (set ids at (arrived id)) ≡ left_of (take at ids) ++ left_of (drop (suc at) ids)
  now = ap left_of (set_split ids at (arrived id) within) ∙ filter-failed is_left (take at ids) (arrived id) (drop (suc at) ids) (not_left id)

  pub cleared_rising : IsRising name_cmp (λ i. i.replica) (set ids at (arrived id))
  cleared_rising =
      subst (IsRising name_cmp (λ (i : Id). i.replica)) (sym (set_split ids at (arrived id) within))
      (rising-cleared (take at ids) (drop (suc at) ids) id (subst (IsRising name_cmp (λ (i : Id). i.replica)) (sym whole) rising))

  -- it is missed no more
  pub cleared_left : left_of (set ids at (arrived id)) ≡ filter (λ i. not (id_eq i id)) (left_of ids)
  cleared_left =
      let rise = subst (IsRising name_cmp (λ (i : Id). i.replica)) (sym around) (rising-filter name_cmp (λ (i : Id). i.replica) is_left ids rising) in
      now
      ∙ forgotten (left_of (take at ids)) (left_of (drop (suc at) ids)) id id rise refl refl
      ∙ ap (filter (λ (i : Id). not (id_eq i id))) around

  -- and they are one fewer
  pub cleared_count : length (left_of ids) ≡ length (left_of (set ids at (arrived id))) + 1
  cleared_count =
      let us = left_of (take at ids) in
      let vs = left_of (drop (suc at) ids) in
      let before : length (us ++ id ∷ vs) ≡ length us + suc (length vs) = length-append us (id ∷ vs) in
      let after : length (us ++ vs) ≡ length us + length vs = length-append us vs in
      omega (arith, before, after, ap length around, ap length now)

pub cleared_here : (ids new : List Id) (id : Id) (at : ℕ) → ((d : Id) → get_or ids at d ≡ id) → ((d : Id) → new ≡ set ids at (arrived (get_or ids at d)))
    → new ≡ set ids at (arrived id)
cleared_here ids new id at here written = written id ∙ ap (λ (i : Id). set ids at (arrived i)) (here id)

-- an id that was logged is not missed, and neither is one that is not there
pub none_left : (ids : List Id) (id : Id) → is_left id ≡ false → left_of ids ≡ filter (λ i. not (id_eq i id)) (left_of ids)
none_left ids id logged = none_forgotten (left_of ids) id (λ there. true≢false (sym (filter-Contains is_left ids there).1 ∙ logged))

pub absent_left : (ids : List Id) (id : Id) → ¬ (Contains ids id) → left_of ids ≡ filter (λ i. not (id_eq i id)) (left_of ids)
absent_left ids id none = none_forgotten (left_of ids) id (λ there. none (filter-Contains is_left ids there).0)
