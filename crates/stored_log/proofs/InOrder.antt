-- Documents in the order of their names: the one that a search finds there, and where a new one goes.
use Rattle.std.proofs.Common.{◌≡◌, ◌≢◌, ◌<◌, ◌≤◌, ◌-◌, ℕ, zero, suc, inl, inr, List, [], ◌∷◌, length, true≢false, ◌∙◌, get_or, set, take, drop, length-drop, ◌+◌, true, false, Contains, Less, sym, ap, subst, arith}
use Rattle.std.specs.List.{insert}
use Rattle.std.specs.List.Sorted.{IsPartitionedBy, IsPartitionPoint}
use Rattle.std.specs.Ordering.{is_lt}
use Rattle.std.proofs.lemmas.List.{get_or_default, get_or-take, get_or-drop, length-take}
use Rattle.std.proofs.lemmas.List.Elements.{Contains-get_or}
use Rattle.std.proofs.lemmas.Bool.{cases_lt}
use Rattle.std.proofs.lemmas.Slice.Eq.{bytes_eq-Decides}
use Rattle.op_log.proofs.Fronts.{names_differ}
use Rattle.doc_api.specs.Words.{name_cmp, Op}
use Rattle.list_laws.proofs.IdOrder.{transitive, compared}
use Rattle.list_laws.specs.Sorted.{IsIndexOf, IsGap}
use Rattle.list_laws.proofs.Keys.{is_Less, less≢equal, not_less_back}
use Rattle.list_laws.proofs.Rising.{rising_index, gap_none}
use Rattle.doc_rules.proofs.OneAnswer.{name_order}
use Rattle.stored_log.specs.Docs.{Doc, AreInOrder, is_named, log_of, longer_by, add_log}
use Rattle.stored_log.proofs.DocLemmas.{extend_there, log_there, any_there, log_nowhere, put_there}

abbrev name_of : Doc → List ℕ
name_of d = d.name

-- the documents with a lesser name come first
pub lesser_names : (docs : List Doc) (name : List ℕ) → AreInOrder docs → IsPartitionedBy (λ (d : Doc). is_lt (name_cmp d.name name)) docs
lesser_names [] name rising i j d le within less = absurd (omega arith)
lesser_names (x ∷ docs) name rising zero zero d le within less = less
lesser_names (x ∷ docs) name rising zero (suc j) d le within less =
    let next = get_or docs j d in
    ap is_lt (transitive name_order {x = x.name} {y = next.name} {z = name} (rising.0 next (Contains-get_or docs j d (omega arith))) (is_Less (name_cmp next.name name) less))
lesser_names (x ∷ docs) name rising (suc i) zero d le within less = absurd (omega arith)
lesser_names (x ∷ docs) name rising (suc i) (suc j) d le within less = lesser_names docs name rising.1 i j d (omega arith) (omega arith) less

abbrev pub IsRank : List Doc → List ℕ → ℕ → Type 0
IsRank docs name at = IsPartitionPoint (λ (d : Doc). is_lt (name_cmp d.name name) ≡ true) (λ (d : Doc). is_lt (name_cmp d.name name) ≡ false) docs at

-- where the last name is less, all are
pub behind_all : (docs : List Doc) (name : List ℕ) (last : Doc) → AreInOrder docs → 0 < length docs
    → is_lt (name_cmp (get_or docs (length docs - 1) last).name name) ≡ true → IsRank docs name (length docs)
behind_all docs name last rising some less = (
  (λ k d from below.
      let end : get_or docs (length docs - 1) d ≡ get_or docs (length docs - 1) last = get_or_default docs (length docs - 1) d last (omega (arith, some)) in
      lesser_names docs name rising k (length docs - 1) d (omega (arith, below)) (omega (arith, some)) (ap (λ (e : Doc). is_lt (name_cmp e.name name)) end ∙ less)),
  (λ k d from below. absurd (omega arith)),
)

module _ (docs : List Doc) (name : List ℕ) (at : ℕ) (rising : AreInOrder docs) (point : IsRank docs name at) where
  less_there : (k : ℕ) (d : Doc) → k < at → name_cmp (get_or docs k d).name name ≡ Less
  less_there k d below = is_Less _ (point.0 k d (omega arith) below)

  -- the document there has another name, if there is one
  module _ (within : at ≤ length docs) (other : (d : Doc) → at < length docs → (get_or docs at d).name ≢ name) where
    not_later : (k : ℕ) (d : Doc) → at < k → k < length docs → (get_or docs k d).name ≢ name
    not_later k d past below same =
        let less : name_cmp (get_or docs at d).name name ≡ Less = subst (λ n. name_cmp (get_or docs at d).name n ≡ Less) same (rising_index name_order name_of docs at k d rising past below) in
        true≢false (sym (ap is_lt less) ∙ point.1 at d (omega arith) (omega (arith, past, below)))

    not_there : (k : ℕ) (d : Doc) → at ≤ k → k < length docs → (get_or docs k d).name ≢ name
    not_there k d from below same =
        elim (cases_lt at k) [
          | inl past ↦ not_later k d past below same
          | inr le ↦ (let is : k ≡ at = omega (arith, from, le) in other d (omega (arith, from, below)) (rw is at same))
        ]

    greater_there : (k : ℕ) (d : Doc) → at ≤ k → k < length docs → name_cmp name (get_or docs k d).name ≡ Less
    greater_there k d from below =
        elim (compared name_order (get_or docs k d).name name) [
          | inl less ↦ absurd (true≢false (sym (ap is_lt less) ∙ point.1 k d from below))
          | inr (inl same) ↦ absurd (not_there k d from below same)
          | inr (inr greater) ↦ greater
        ]

    pub gap_there : IsGap name_cmp name_of docs name at
    gap_there = record {
      within = within;
      smaller_before = λ y c.
          let below : c.0 < at = omega (arith, length-take at docs, c.1) in
          subst (λ (z : Doc). name_cmp z.name name ≡ Less) (sym (get_or-take at docs c.0 y below) ∙ c.2) (less_there c.0 y below);
      greater_behind = λ y c.
          let inside : at + c.0 < length docs = omega (arith, length-drop at docs, c.1) in
          subst (λ (z : Doc). name_cmp name z.name ≡ Less) (sym (get_or-drop at docs c.0 y) ∙ c.2) (greater_there (at + c.0) y (omega arith) inside);
    }

module _ (docs : List Doc) (name : List ℕ) (at : ℕ) where
  module _ (rising : AreInOrder docs) (place : IsIndexOf name_cmp name_of docs name at) where
    hit : (d : Doc) → is_named name (get_or docs at d) ≡ true
    hit d = (bytes_eq-Decides (get_or docs at d).name name).1 (place.has_key d)

    earlier : (d : Doc) (k : ℕ) → k < at → is_named name (get_or docs k d) ≡ false
    earlier d k below =
        names_differ (get_or docs k d).name name (less≢equal name_order (get_or docs k d).name name
        (subst (λ n. name_cmp (get_or docs k d).name n ≡ Less) (place.has_key d) (rising_index name_order name_of docs k at d rising below place.within)))

    pub log_at_place : (d : Doc) → log_of name docs ≡ (get_or docs at d).log
    log_at_place d = log_there name docs at d place.within (hit d) (earlier d)

    pub extend_at_place : (d : Doc) (more : List Op) → set docs at (longer_by more (get_or docs at d)) ≡ add_log name more docs
    extend_at_place d more = rw (any_there name docs at d place.within (hit d)) (extend_there name more docs at d place.within (hit d) (earlier d))

  module _ (gap : IsGap name_cmp name_of docs name at) where
    nowhere_there : (d : Doc) (k : ℕ) → k < length docs → is_named name (get_or docs k d) ≡ false
    nowhere_there d k below = names_differ (get_or docs k d).name name (gap_none name_order name_of docs name at gap (get_or docs k d) (Contains-get_or docs k d below))

    none : Doc
    none = record { name = []; log = [] }

    pub log_in_gap : log_of name docs ≡ []
    log_in_gap = (log_nowhere name docs none (nowhere_there none)).0

    before_it : (k : ℕ) → k < at → is_lt (name_cmp name (get_or docs k none).name) ≡ false
    before_it k below =
        not_less_back name_order (get_or docs k none).name name
        (gap.smaller_before (get_or docs k none) (subst (Contains (take at docs)) (get_or-take at docs k none below) (Contains-get_or (take at docs) k none (omega (arith, length-take at docs, gap.within, below)))))

    behind_it : at < length docs → is_lt (name_cmp name (get_or docs at none).name) ≡ true
    behind_it below =
        let is : at + 0 ≡ at = omega arith in
        let first : Contains (drop at docs) (get_or docs (at + 0) none) = subst (Contains (drop at docs)) (get_or-drop at docs 0 none) (Contains-get_or (drop at docs) 0 none (omega (arith, length-drop at docs, below))) in
        ap is_lt (gap.greater_behind (get_or docs at none) (rw is at first))

    pub put_in_gap : (more : List Op) → insert docs at (record { name = name; log = more }) ≡ add_log name more docs
    put_in_gap more =
        let new : Doc = record { name = name; log = more } in
        rw ((log_nowhere name docs none (nowhere_there none)).1) (put_there new docs at none gap.within before_it behind_it)
