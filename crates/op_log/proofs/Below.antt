-- What the front of a logged operation says is known in the log, and so to each front above it.
use Rattle.std.proofs.Common.{◌≡◌, ℕ, ◌<◌, ◌≤◌, inl, inr, List, [], ◌∷◌, ◌++◌, length, Some, true, ◌&&◌, Contains, sym, subst, ◌∙◌, arith}
use Rattle.std.proofs.lemmas.Bool.{and_from}
use Rattle.std.specs.List.{list_any, slice_get}
use Rattle.std.proofs.lemmas.Option.{slice_get_within}
use Rattle.doc_api.specs.Words.{Op}
use Rattle.version_vector.specs.Front.{id_of, covers, is_le}
use Rattle.crdt_rules.specs.Dependencies.{is_logged}
use Rattle.crdt_rules.specs.Fits.{Fits}
use Rattle.crdt_rules.specs.Log.{IsGood}
use Rattle.crdt_rules.specs.Same.{id_eq}
use Rattle.crdt_rules.proofs.Fronts.{covers_at, covers_from}
use Rattle.crdt_rules.proofs.Logs.{fits_inside, by_fits}
use Rattle.crdt_rules.proofs.Readings.{known_from, logged_at}
use Rattle.crdt_rules.proofs.SameLaws.{id_decides}
use Rattle.crdt_rules.proofs.Tests.{any_at, all_at, all_from, some≢none}
use Rattle.op_log.specs.Index.{CoversBetween}
use Rattle.op_log.specs.Known.{is_pair_known}
use Rattle.crdt_rules.proofs.GoodLogs.{ids_once}
use Rattle.doc_rules.specs.Replica.{find_id}
use Rattle.op_log.proofs.Ids.{any-find_id}
use Rattle.op_log.proofs.Indexes.{slice_get-Contains, slice_get-push_old, slice_get-push_cases}

le_through : (a b c : List (List ℕ × ℕ)) → is_le a b ≡ true → is_le b c ≡ true → is_le a c ≡ true
le_through a b c ab bc =
    all_from (λ e. covers c (id_of e)) a
    (λ e h.
    let r = covers_from b (id_of e) (all_at (λ e. covers b (id_of e)) a ab h) in
    let s = covers_from c (id_of r.0) (all_at (λ e. covers c (id_of e)) b bc r.1) in
    let low : e.1 ≤ (r.0).1 = r.3 in
    let high : (r.0).1 ≤ (s.0).1 = s.3 in
    covers_at c s.0 (id_of e) s.1 (s.2 ∙ r.2) (omega arith))

pub known_below : (log : List Op) (o : Op) (front : List (List ℕ × ℕ)) (e : List ℕ × ℕ) → IsGood log → Contains log o → is_le o.front front ≡ true → Contains o.front e
    → list_any (λ p. id_eq p.id (id_of e) && is_le p.front front) log ≡ true
known_below log o front e good logged below c =
    let inside = fits_inside log good logged in
    let k = known_from o.front inside.before inside.fits.front e c in
    any_at (λ p. id_eq p.id (id_of e) && is_le p.front front) log (inside.within k.0 k.1)
    (and_from (id_eq (k.0).id (id_of e)) (is_le (k.0).front front) (subst (λ j. id_eq (k.0).id j ≡ true) k.2 (id_decides.itself (k.0).id))
    (le_through (k.0).front o.front front k.3 below))

-- so is that operation itself
pub known_itself : (log : List Op) (o : Op) (front : List (List ℕ × ℕ)) (e : List ℕ × ℕ) → Contains log o → is_le o.front front ≡ true → o.id ≡ id_of e → is_pair_known front log e ≡ true
known_itself log o front e logged below is =
    any_at (λ p. id_eq p.id (id_of e) && is_le p.front front) log logged
    (and_from (id_eq o.id (id_of e)) (is_le o.front front) (subst (λ j. id_eq o.id j ≡ true) is (id_decides.itself o.id)) below)

pub logged_below : (log : List Op) (o : Op) (e : List ℕ × ℕ) → IsGood log → Contains log o → Contains o.front e → is_logged log (id_of e) ≡ true
logged_below log o e good logged c =
    let inside = fits_inside log good logged in
    let k = known_from o.front inside.before inside.fits.front e c in
    logged_at log k.0 (id_of e) (inside.within k.0 k.1) k.2

-- what the front of an operation says stands before it
abbrev Before : List Op → Type 0
Before log = (k : ℕ) (op : Op) → slice_get log k ≡ Some op → (e : List ℕ × ℕ) → Contains op.front e
    → (j : ℕ) × (o : Op) × (slice_get log j ≡ Some o) × (j < k) × (o.id ≡ id_of e)

pairs_before : (log : List Op) → IsGood log → Before log
pairs_before = by_fits Before (λ k op there. absurd (some≢none (sym there))) push
  where
    push : (log : List Op) (op : Op) → IsGood log → Fits op log → Before log → Before (log ++ op ∷ [])
    push log op good fits ih k x there e c =
        elim (slice_get-push_cases log op k there) [
          | inl old ↦ let r = ih k x old e c in (r.0, r.1, slice_get-push_old log op r.0 r.2, r.3, r.4)
          | inr new ↦
              let r = known_from op.front log fits.front e (subst (λ (o : Op). Contains o.front e) (sym new.1) c) in
              let at = slice_get-Contains log r.1 in
              let within : at.0 < length log = slice_get_within log at.0 r.0 at.1 in
              (at.0, r.0, slice_get-push_old log op at.0 at.1, omega (arith, within, new.0), r.2)
        ]

-- before a position up to which a front covers all, the fronts of operations are at most this one
pub covered_below : (log : List Op) → IsGood log → (front : List (List ℕ × ℕ)) (n : ℕ) → CoversBetween front log 0 n → (k : ℕ) (op : Op) → slice_get log k ≡ Some op → k < n
    → is_le op.front front ≡ true
covered_below log good front n covered k op there below =
    all_from (λ e. covers front (id_of e)) op.front
    (λ e h.
    let r = pairs_before log good k op there e h in
    let less : r.0 < k = r.3 in
    subst (λ i. covers front i ≡ true) r.4 (covered r.0 r.1 r.2 (omega arith) (omega (arith, less, below))))

-- and what is logged there is known
pub known_covered : (log : List Op) → IsGood log → (front : List (List ℕ × ℕ)) (n : ℕ) → CoversBetween front log 0 n → (k : ℕ) (op : Op) → slice_get log k ≡ Some op → k < n
    → (e : List ℕ × ℕ) → find_id log (id_of e) ≡ Some op → is_pair_known front log e ≡ true
known_covered log good front n covered k op there below e found =
    any-find_id (λ o. is_le o.front front) log (id_of e) op (ids_once log good) found ∙ covered_below log good front n covered k op there below
