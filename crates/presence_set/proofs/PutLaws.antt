-- Whether an empty map or list is put, as entries come and go.
use Rattle.std.proofs.Common.{◌≡◌, ℕ, List, [], ◌∷◌, Bool, true, false, not, filter, ◌||◌, if◌then◌else◌, refl, ap, ◌∙◌, sym, true≢false}
use Rattle.std.specs.List.{list_any}
use Rattle.std.proofs.lemmas.Bool.{or_parts}
use Rattle.std.specs.Ordering.{is_lt}
use Rattle.doc_api.specs.Words.{Id, id_cmp}
use Rattle.version_vector.specs.Front.{covers}
use Rattle.crdt_rules.specs.Same.{id_eq}
use Rattle.doc_api.specs.declared.role.Role.{Role}
use Rattle.presence_set.specs.declared.empty_put.EmptyPut.{EmptyPut}
use Rattle.presence_set.specs.EmptyPut.{puts_map, puts_list, CoversPut}
use Rattle.presence_set.specs.ById.{put_at_id, uncovered}

module _ {X : Type 0} where
  -- where nothing has a property, nothing has it with one more that hasn't
  pub any-put : (has : X → Bool) (entries : List (Id × X)) (id : Id) (x : X) → list_any (λ e. has e.1) entries ≡ false → has x ≡ false
      → list_any (λ e. has e.1) (put_at_id entries id x) ≡ false
  any-put has [] id x none lacks = ap (λ b. b || false) lacks
  any-put has (e ∷ entries) id x none lacks =
      go (has e.1) refl (list_any (λ e. has e.1) entries) refl none (is_lt (id_cmp e.0 id)) (id_eq e.0 id) (any-put has entries id x)
    where
      go : (here : Bool) → has e.1 ≡ here → (later : Bool) → list_any (λ e. has e.1) entries ≡ later → (here || later) ≡ false → (less same : Bool)
          → (list_any (λ e. has e.1) entries ≡ false → has x ≡ false → list_any (λ e. has e.1) (put_at_id entries id x) ≡ false)
          → list_any (λ e. has e.1) (if less then e ∷ put_at_id entries id x else if same then (id, x) ∷ entries else (id, x) ∷ e ∷ entries) ≡ false
      go true is later was both less same ih = absurd (true≢false both)
      go false is true was both less same ih = absurd (true≢false both)
      go false is false was both true same ih = ap (λ b. b || list_any (λ e. has e.1) (put_at_id entries id x)) is ∙ ih was lacks
      go false is false was both false true ih = ap (λ b. b || list_any (λ e. has e.1) entries) lacks ∙ was
      go false is false was both false false ih =
          ap (λ b. b || (has e.1 || list_any (λ e. has e.1) entries)) lacks ∙ ap (λ b. b || list_any (λ e. has e.1) entries) is ∙ was

  -- nor with fewer
  pub any-filter : (has : X → Bool) (keeps : Id × X → Bool) (entries : List (Id × X)) → list_any (λ e. has e.1) entries ≡ false
      → list_any (λ e. has e.1) (filter keeps entries) ≡ false
  any-filter has keeps [] none = refl
  any-filter has keeps (e ∷ entries) none =
      go (has e.1) refl (list_any (λ e. has e.1) entries) refl none (keeps e) (any-filter has keeps entries)
    where
      go : (here : Bool) → has e.1 ≡ here → (later : Bool) → list_any (λ e. has e.1) entries ≡ later → (here || later) ≡ false → (stays : Bool)
          → (list_any (λ e. has e.1) entries ≡ false → list_any (λ e. has e.1) (filter keeps entries) ≡ false)
          → list_any (λ e. has e.1) (if stays then e ∷ filter keeps entries else filter keeps entries) ≡ false
      go true is later was both stays ih = absurd (true≢false both)
      go false is true was both stays ih = absurd (true≢false both)
      go false is false was both true ih = ap (λ b. b || list_any (λ e. has e.1) (filter keeps entries)) is ∙ ih was
      go false is false was both false ih = ih was

-- what covers the entries covers them with one more, once the role of that one is in it
pub covers-put : (may more : EmptyPut) (entries : List (Id × Role)) (id : Id) (role : Role) → CoversPut may entries
    → more.map ≡ (puts_map role || may.map) → more.list ≡ (puts_list role || may.list) → CoversPut more (put_at_id entries id role)
covers-put may more entries id role covered map_is list_is = record {
  map = λ without. let both = or_parts (puts_map role) may.map (sym map_is ∙ without) in any-put puts_map entries id role (covered.map both.1) both.0;
  list = λ without. let both = or_parts (puts_list role) may.list (sym list_is ∙ without) in any-put puts_list entries id role (covered.list both.1) both.0;
}

-- and those that a front leaves
pub covers-uncovered : (may : EmptyPut) (front : List (List ℕ × ℕ)) (entries : List (Id × Role)) → CoversPut may entries
    → CoversPut may (uncovered front entries)
covers-uncovered may front entries covered = record {
  map = λ without. any-filter puts_map (λ e. not (covers front e.0)) entries (covered.map without);
  list = λ without. any-filter puts_list (λ e. not (covers front e.0)) entries (covered.list without);
}
