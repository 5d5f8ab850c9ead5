-- The front of a whole log: it ascends, each entry is a logged id, and it names the last operation of each replica.
use Rattle.std.proofs.Common.{◌≡◌, ◌≢◌, ◌⊎◌, inl, inr, ℕ, ◌+◌, ◌≤◌, max, List, [], ◌∷◌, ◌++◌, length, length-append, Bool, true, false, bytes_eq, Option, Some, None, unwrap_or, if◌then◌else◌, Contains, refl, sym, ap, subst, ◌∙◌, arith, Ordering, Less, Equal, Greater}
use Rattle.std.specs.Ordering.{is_lt}
use Rattle.std.proofs.lemmas.Bool.{and_parts, and_from, cases_lt, false_from_ne_true}
use Rattle.std.proofs.lemmas.List.Elements.{Contains-push_cases}
use lib.Pointwise.{bytes_decides}
use Rattle.doc_api.specs.Words.{Id, name_cmp, Op}
use Rattle.version_vector.specs.Front.{id_of, covers, max_counter, is_le, is_ascending}
use Rattle.list_laws.proofs.IdOrder.{transitive}
use Rattle.list_laws.proofs.Members.{Contains-nil, Contains-here, Contains-there, Contains-cases}
use Rattle.crdt_rules.specs.Dependencies.{entry_of}
use Rattle.crdt_rules.specs.Fits.{last_counter, knows_front}
use Rattle.crdt_rules.specs.Log.{IsGood}
use Rattle.crdt_rules.specs.Pull.{raise, raise_first, front_of}
use Rattle.crdt_rules.proofs.Fronts.{shaped_counter, entry_of-Contains}
use Rattle.crdt_rules.proofs.Logs.{by_fits, fits_inside}
use Rattle.crdt_rules.proofs.FrontOf.{front_of-covers}
use Rattle.crdt_rules.proofs.Readings.{known_from, known_at}
use Rattle.crdt_rules.proofs.Tests.{all_from}
use Rattle.crdt_rules.proofs.Ascending.{front_of-ascending}
use Rattle.list_laws.specs.Sorted.{KeysRise}
use Rattle.list_laws.proofs.Keys.{is_Less, less≢equal, less_back}
use Rattle.list_laws.proofs.Rising.{rising_same}
use Rattle.doc_rules.proofs.OneAnswer.{name_order}

abbrev Entry : Type 0
Entry = List ℕ × ℕ

-- an entry of a raised front is the id, or one of before
raise_from : (i : Id) (front : List Entry) {e : Entry} → Contains (raise i front) e → (e ≡ (i.replica, i.counter)) ⊎ Contains front e
raise_from i [] c = elim (Contains-cases (i.replica, i.counter) [] c) [ inl is ↦ inl (sym is) | inr none ↦ inr none ]
raise_from i (f ∷ front) {e} c = by (name_cmp i.replica f.0) refl c (λ c. raise_from i front c)
  where
    by : (r : Ordering) → name_cmp i.replica f.0 ≡ r → Contains (raise_first r i f front (raise i front)) e
        → (Contains (raise i front) e → (e ≡ (i.replica, i.counter)) ⊎ Contains front e) → (e ≡ (i.replica, i.counter)) ⊎ Contains (f ∷ front) e
    by Less h c ih = elim (Contains-cases (i.replica, i.counter) (f ∷ front) c) [ inl is ↦ inl (sym is) | inr old ↦ inr old ]
    by Equal h c ih =
        elim (Contains-cases (f.0, max f.1 i.counter) front c) [
          | inl is ↦ elim (cases_lt f.1 i.counter) [
            | inl less ↦
                let top : max f.1 i.counter ≡ i.counter = omega (arith, less) in
                inl (sym is ∙ λ j. (sym (name_order.exact i.replica f.0 h) j, top j))
            | inr least ↦
                let top : f.1 ≡ max f.1 i.counter = omega (arith, least) in
                inr (Contains-here front ((λ j. (f.0, top j)) ∙ is))
          ]
          | inr old ↦ inr (Contains-there f front old)
        ]
    by Greater h c ih =
        elim (Contains-cases f (raise i front) c) [
          | inl is ↦ inr (Contains-here front is)
          | inr behind ↦ elim (ih behind) [ inl new ↦ inl new | inr old ↦ inr (Contains-there f front old) ]
        ]

-- the test of neighbours says it of all
pub rising_from_ascending : (front : List (List ℕ × ℕ)) → is_ascending front ≡ true → KeysRise name_cmp front
rising_from_ascending [] h = tt
rising_from_ascending (e ∷ []) h = ((λ y c. absurd (Contains-nil c)), tt)
rising_from_ascending (e ∷ f ∷ rest) h =
    let p = and_parts (is_lt (name_cmp e.0 f.0)) (is_ascending (f ∷ rest)) h in
    let later = rising_from_ascending (f ∷ rest) p.1 in
    let next : name_cmp e.0 f.0 ≡ Less = is_Less (name_cmp e.0 f.0) p.0 in (
      (λ y c.
          elim (Contains-cases f rest c) [
            | inl here ↦ subst (λ z. name_cmp e.0 z.0 ≡ Less) here next
            | inr behind ↦ name_order.total.trans e.0 f.0 y.0 next (later.0 y behind)
          ]),
      later,
    )

pub front_rising : (log : List Op) → KeysRise name_cmp (front_of log)
front_rising log = rising_from_ascending (front_of log) (front_of-ascending log)

pub rising_ascends : (front : List Entry) → KeysRise name_cmp front → is_ascending front ≡ true
rising_ascends [] h = refl
rising_ascends (e ∷ []) h = refl
rising_ascends (e ∷ f ∷ front) h =
    and_from (is_lt (name_cmp e.0 f.0)) (is_ascending (f ∷ front)) (ap is_lt (h.0 f (Contains-here front refl))) (rising_ascends (f ∷ front) h.1)

-- an entry is the id of a logged operation
pub front_from : (log : List Op) {e : Entry} → Contains (front_of log) e → (o : Op) × Contains log o × (o.id ≡ id_of e)
front_from [] c = absurd (Contains-nil c)
front_from (o ∷ log) {e} c =
    elim (raise_from o.id (front_of log) c) [
      | inl new ↦ (o, Contains-here log refl, λ j. record { counter = (sym new j).1; replica = (sym new j).0 })
      | inr old ↦ let r = front_from log old in (r.0, Contains-there o log r.1, r.2)
    ]

-- ---- the last operation of each replica

pub entry_of-none : (front : List Entry) (name : List ℕ) → ((e : Entry) → Contains front e → e.0 ≢ name) → entry_of front name ≡ None
entry_of-none [] name other = refl
entry_of-none (e ∷ front) name other =
    rw (false_from_ne_true (bytes_eq e.0 name) (λ h. other e (Contains-here front refl) ((bytes_decides e.0 name).0 h)))
    (entry_of-none front name (λ f c. other f (Contains-there e front c)))

-- a raised entry, from the one before
abbrev raised : Bool → ℕ → Option ℕ → Option ℕ
raised true counter before = Some (max counter (unwrap_or before 0))
raised false counter before = before

entry-raise : (i : Id) (front : List Entry) (name : List ℕ) → KeysRise name_cmp front
    → entry_of (raise i front) name ≡ raised (bytes_eq i.replica name) i.counter (entry_of front name)
entry-raise i [] name h = by (bytes_eq i.replica name)
  where
    by : (b : Bool) → (if b then Some i.counter else None) ≡ raised b i.counter None
    by true = let top : i.counter ≡ max i.counter 0 = omega arith in ap (λ n. Some n) top
    by false = refl
entry-raise i (f ∷ front) name h = by (name_cmp i.replica f.0) refl (entry-raise i front name h.1)
  where
    -- in front of all that stood there
    before : (b : Bool) → bytes_eq i.replica name ≡ b → name_cmp i.replica f.0 ≡ Less
        → (if b then Some i.counter else entry_of (f ∷ front) name) ≡ raised b i.counter (entry_of (f ∷ front) name)
    before false e less = refl
    before true e less =
        rw (entry_of-none (f ∷ front) name (λ y c same. elim (Contains-cases f front c) [
          | inl is ↦ less≢equal name_order i.replica f.0 less ((bytes_decides i.replica name).0 e ∙ sym same ∙ ap (λ (z : Entry). z.0) (sym is))
          | inr later ↦ less≢equal name_order i.replica y.0 (transitive name_order {x = i.replica} {y = f.0} {z = y.0} less (h.0 y later)) ((bytes_decides i.replica name).0 e ∙ sym same)
        ]))
        (let top : i.counter ≡ max i.counter 0 = omega arith in ap (λ n. Some n) top)

    -- at its place
    at_place : (b : Bool) → (if b then Some (max f.1 i.counter) else entry_of front name) ≡ raised b i.counter (if b then Some f.1 else entry_of front name)
    at_place true = let same : max f.1 i.counter ≡ max i.counter f.1 = omega arith in ap (λ n. Some n) same
    at_place false = refl

    -- behind the first
    behind : (b : Bool) → bytes_eq f.0 name ≡ b → name_cmp i.replica f.0 ≡ Greater
        → entry_of (raise i front) name ≡ raised (bytes_eq i.replica name) i.counter (entry_of front name)
        → (if b then Some f.1 else entry_of (raise i front) name) ≡ raised (bytes_eq i.replica name) i.counter (if b then Some f.1 else entry_of front name)
    behind false e greater ih = ih
    behind true e greater ih =
        rw (false_from_ne_true (bytes_eq i.replica name)
        (λ s. less≢equal name_order f.0 i.replica (less_back name_order i.replica f.0 greater) ((bytes_decides f.0 name).0 e ∙ sym ((bytes_decides i.replica name).0 s)))) refl

    by : (r : Ordering) → name_cmp i.replica f.0 ≡ r → entry_of (raise i front) name ≡ raised (bytes_eq i.replica name) i.counter (entry_of front name)
        → entry_of (raise_first r i f front (raise i front)) name ≡ raised (bytes_eq i.replica name) i.counter (entry_of (f ∷ front) name)
    by Less e ih = before (bytes_eq i.replica name) refl e
    by Equal e ih = rw (name_order.exact i.replica f.0 e) (at_place (bytes_eq f.0 name))
    by Greater e ih = behind (bytes_eq f.0 name) refl e ih

pub front_last : (log : List Op) (name : List ℕ) → entry_of (front_of log) name ≡ last_counter log name
front_last [] name = refl
front_last (o ∷ log) name =
    entry-raise o.id (front_of log) name (front_rising log)
    ∙ ap (raised (bytes_eq o.id.replica name) o.id.counter) (front_last log name)
    ∙ by (bytes_eq o.id.replica name)
  where
    by : (b : Bool) → raised b o.id.counter (last_counter log name) ≡ (if b then Some (max o.id.counter (unwrap_or (last_counter log name) 0)) else last_counter log name)
    by true = refl
    by false = refl

-- each entry of a rising front is its replica's
pub entry_of-at : (front : List Entry) (e : Entry) → KeysRise name_cmp front → Contains front e → entry_of front e.0 ≡ Some e.1
entry_of-at [] e h c = absurd (Contains-nil c)
entry_of-at (f ∷ front) e h c =
    elim (Contains-cases f front c) [
      | inl is ↦
          let same : bytes_eq f.0 e.0 ≡ true = (bytes_decides f.0 e.0).1 (ap (λ (z : Entry). z.0) is) in
          rw same (ap (λ (z : Entry). Some z.1) is)
      | inr behind ↦
          rw (false_from_ne_true (bytes_eq f.0 e.0) (λ same. less≢equal name_order f.0 e.0 (h.0 e behind) ((bytes_decides f.0 e.0).0 same)))
          (entry_of-at front e h.1 behind)
    ]

-- fronts that rise and say the same of each replica are one
pub fronts_same : (xs ys : List Entry) → KeysRise name_cmp xs → KeysRise name_cmp ys → ((name : List ℕ) → entry_of xs name ≡ entry_of ys name) → xs ≡ ys
fronts_same xs ys rising other_rising same =
    rising_same name_order (λ (e : Entry). e.0) xs ys rising other_rising (within xs ys rising same) (within ys xs other_rising (λ name. sym (same name)))
  where
    within : (xs ys : List Entry) → KeysRise name_cmp xs → ((name : List ℕ) → entry_of xs name ≡ entry_of ys name) → (e : Entry) → Contains xs e → Contains ys e
    within xs ys rising same e c = entry_of-Contains ys e.0 e.1 (sym (same e.0) ∙ entry_of-at xs e rising c)

-- ---- in a good log

-- it covers what each operation of the log follows
pub front_above : (log : List Op) (o : Op) → IsGood log → Contains log o → is_le o.front (front_of log) ≡ true
front_above log o good c =
    let inside = fits_inside log good c in
    all_from (λ e. covers (front_of log) (id_of e)) o.front
    (λ e h. let k = known_from o.front inside.before inside.fits.front e h in
    front_of-covers log k.0 (id_of e) (inside.within k.0 k.1) (ap (λ i. i.replica) k.2) (subst (λ (i : Id). e.1 ≤ i.counter) (sym k.2) (omega arith)))

pub knows_whole_front : (log : List Op) → IsGood log → knows_front (front_of log) log ≡ true
knows_whole_front log good =
    known_at (front_of log) log (λ e c. let r = front_from log c in (r.0, r.1, r.2, front_above log r.0 good r.1))

-- a counter is at most the number of operations
max_counter_from : (front : List Entry) (n : ℕ) → ((e : Entry) → Contains front e → e.1 ≤ n) → max_counter front ≤ n
max_counter_from [] n each = omega arith
max_counter_from (e ∷ front) n each =
    let first : e.1 ≤ n = each e (Contains-here front refl) in
    let rest : max_counter front ≤ n = max_counter_from front n (λ f c. each f (Contains-there e front c)) in
    omega arith

counters_below : (log : List Op) → IsGood log → (o : Op) → Contains log o → o.id.counter ≤ length log
counters_below =
    by_fits (λ log. (o : Op) → Contains log o → o.id.counter ≤ length log) (λ o c. absurd (Contains-nil c))
    (λ log op good fits ih o c.
    elim (Contains-push_cases log op o c) [
      | inl old ↦ let below : o.id.counter ≤ length log = ih o old in omega (arith, length-append log (op ∷ []))
      | inr is ↦
          let counter : op.id.counter ≡ max_counter op.front + 1 = shaped_counter op fits.shape in
          let most : max_counter op.front ≤ length log =
          max_counter_from op.front (length log) (λ e h. let k = known_from op.front log fits.front e h in subst (λ (i : Id). i.counter ≤ length log) k.2 (ih k.0 k.1)) in
          let below : op.id.counter ≤ length log + 1 = omega arith in
          subst (λ (z : Op). z.id.counter ≤ length (log ++ op ∷ [])) is (omega (arith, length-append log (op ∷ []), below))
    ])

pub max_counter_below : (log : List Op) → IsGood log → max_counter (front_of log) ≤ length log
max_counter_below log good =
    max_counter_from (front_of log) (length log)
    (λ e c. let r = front_from log c in subst (λ (i : Id). i.counter ≤ length log) r.2 (counters_below log good r.0 r.1))
