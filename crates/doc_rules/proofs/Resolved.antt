-- Where steps lead, if they are not refused: a cursor that is placed, in limits, and each of whose elements
-- stands in its list.
use Rattle.std.proofs.Common.{◌≡◌, inl, inr, ℕ, zero, suc, ◌<◌, nat_le, List, [], ◌∷◌, ◌++◌, length, length-append, append_assoc, Bool, true, false, ◌&&◌, Option, Some, None, option_map, slice_get, Result, Ok, Err, ok_or, if◌then◌else◌, Contains, refl, sym, subst, arith, le-leb}
use Rattle.std.specs.Prelude.{⊤, MatchResult}
use Rattle.list_laws.proofs.Scanning.{Contains-from_slice_get}
use Rattle.std.proofs.lemmas.Bool.{and_parts, and_from, or_cases, both_ways}
use Rattle.doc_api.specs.Words.{Id, Refusal, Cursor, Key, Tagged}
use Rattle.json_scalar.specs.Refusal.{and_then}
use Rattle.json_scalar.specs.declared.refusal.Refusal.TheVariants.{BadCursor, IndexPastEnd, AtHead, TooDeep}
use Rattle.json_scalar.proofs.Readings.{ok_step}
use Rattle.op_core.specs.declared.cursor.Key.TheVariants.{Text, Element, Head}
use Rattle.op_core.specs.declared.cursor.Tagged.TheVariants as tagged
use Rattle.op_core.specs.Shape.{is_doc, is_head, is_list, is_placed, is_shallow, key_of, may_follow, may_end, follows}
use Rattle.list_laws.proofs.Members.{Contains-here, Contains-there, Contains-cases}
use Rattle.crdt_rules.specs.Same.{id_eq}
use Rattle.crdt_rules.specs.Facts.{Facts}
use Rattle.crdt_rules.proofs.SameLaws.{id_decides}
use Rattle.crdt_rules.proofs.Tests.{any_at}
use Rattle.doc_rules.specs.Sorted.{AreThose}
use Rattle.doc_rules.specs.Sorted.AreThose.{none, keep, skip}
use Rattle.doc_rules.specs.Views.{into_list, AreElements}
use Rattle.doc_api.specs.declared.place.Step.{Step}
use Rattle.doc_api.specs.declared.place.Step.TheVariants.{Get, Index}
use Rattle.doc_rules.specs.Resolve.{is_short, exists_in, path_exists, checked_start, may_go_on, at_text, at_index, Goes, Leads, Resolves}

pub record IsAt (f : Facts) (c : Cursor) : Type 0 where
  pub shallow : is_shallow c.path ≡ true
  pub placed : is_placed c.path c.key ≡ true
  pub stands : path_exists f [] c.path c.key ≡ true

pub ok_same : {A E : Type 0} {x y : A} → ◌≡◌ {A = Result A E} (Ok x) (Ok y) → x ≡ y
ok_same h = cc

pub ok≢err : {A E : Type 0} {x : A} {e : E} → ◌≡◌ {A = Result A E} (Err e) (Ok x) → ⊥
ok≢err h = cc

start_is_at : (f : Facts) (c d : Cursor) → checked_start f c ≡ Ok d → IsAt f d
start_is_at f c d h = by (is_shallow c.path) refl (is_placed c.path c.key && path_exists f [] c.path c.key) refl h
  where
    by : (a : Bool) → is_shallow c.path ≡ a → (b : Bool) → (is_placed c.path c.key && path_exists f [] c.path c.key) ≡ b
        → ◌≡◌ {A = Result Cursor Refusal} (if a then (if b then Ok c else Err BadCursor) else Err TooDeep) (Ok d) → IsAt f d
    by true a true b h =
        let parts = and_parts (is_placed c.path c.key) (path_exists f [] c.path c.key) b in
        subst (IsAt f) (ok_same h) (record { shallow = a; placed = parts.0; stands = parts.1 })
    by true a false b h = absurd (ok≢err h)
    by false a b e h = absurd (ok≢err h)

-- ---- one key more

follows-snoc : (last : Tagged) (rest : List Tagged) (t : Tagged) (k : Key) → follows last rest (key_of t) ≡ true → is_head (key_of t) ≡ false
    → may_end t k ≡ true → follows last (rest ++ t ∷ []) k ≡ true
follows-snoc last [] t k h on end =
    elim (or_cases (may_follow last (key_of t)) (is_list last && is_head (key_of t)) h) [
      | inl follow ↦ and_from (may_follow last (key_of t)) (may_end t k) follow end
      | inr head ↦ absurd (both_ways (is_head (key_of t)) on (and_parts (is_list last) (is_head (key_of t)) head).1)
    ]
follows-snoc last (next ∷ rest) t k h on end =
    let parts = and_parts (may_follow last (key_of next)) (follows next rest (key_of t)) h in
    and_from (may_follow last (key_of next)) (follows next (rest ++ t ∷ []) k) parts.0 (follows-snoc next rest t k parts.1 on end)

placed-snoc : (p : List Tagged) (t : Tagged) (k : Key) → is_placed p (key_of t) ≡ true → is_head (key_of t) ≡ false → may_end t k ≡ true
    → is_placed (p ++ t ∷ []) k ≡ true
placed-snoc [] t k h on end = and_from (is_doc (key_of t)) (may_end t k) h end
placed-snoc (first ∷ rest) t k h on end =
    let parts = and_parts (is_doc (key_of first)) (follows first rest (key_of t)) h in
    and_from (is_doc (key_of first)) (follows first (rest ++ t ∷ []) k) parts.0 (follows-snoc first rest t k parts.1 on end)

stands-snoc : (f : Facts) (p path : List Tagged) (t : Tagged) (k : Key) → path_exists f p path (key_of t) ≡ true → is_short k ≡ true
    → exists_in f (p ++ (path ++ t ∷ [])) k ≡ true → path_exists f p (path ++ t ∷ []) k ≡ true
stands-snoc f p [] t k h short here =
    and_from (is_short (key_of t) && exists_in f p (key_of t)) (is_short k && exists_in f (p ++ t ∷ []) k) h
    (and_from (is_short k) (exists_in f (p ++ t ∷ []) k) short here)
stands-snoc f p (s ∷ path) t k h short here =
    let parts = and_parts (is_short (key_of s) && exists_in f p (key_of s)) (path_exists f (p ++ s ∷ []) path (key_of t)) h in
    and_from (is_short (key_of s) && exists_in f p (key_of s)) (path_exists f (p ++ s ∷ []) (path ++ t ∷ []) k) parts.0
    (stands-snoc f (p ++ s ∷ []) path t k parts.1 short (subst (λ q. exists_in f q k ≡ true) (sym (append_assoc p (s ∷ []) (path ++ t ∷ []))) here))

moved : (f : Facts) (p : List Tagged) (t : Tagged) (k : Key) → IsAt f (record { path = p; key = key_of t }) → is_head (key_of t) ≡ false
    → nat_le 30 (length p) ≡ false → may_end t k ≡ true → is_short k ≡ true → exists_in f (p ++ t ∷ []) k ≡ true
    → IsAt f (record { path = p ++ t ∷ []; key = k })
moved f p t k is_at on deep end short here = record {
  shallow = le-leb (length (p ++ t ∷ [])) 30 (let few = below (length p) deep in omega (arith, length-append p (t ∷ []), few));
  placed = placed-snoc p t k is_at.placed on end;
  stands = stands-snoc f [] p t k is_at.stands short here;
}
  where
    below : (n : ℕ) → nat_le 30 n ≡ false → n < 30
    below n e = grind arith

may_from : (c : Cursor) {x : ⊤} → may_go_on c ≡ Ok x → (is_head c.key ≡ false) × (nat_le 30 (length c.path) ≡ false)
may_from c {x} h = by (is_head c.key) (nat_le 30 (length c.path)) h
  where
    by : (a b : Bool) → ◌≡◌ {A = Result ⊤ Refusal} (if a then Err AtHead else (if b then Err TooDeep else Ok tt)) (Ok x) → (a ≡ false) × (b ≡ false)
    by false false h = (refl, refl)
    by false true h = absurd (ok≢err h)
    by true b h = absurd (ok≢err h)

-- ---- steps

pub those_from : {X : Type 0} {holds : X → Type 0} {xs kept : List X} → AreThose holds xs kept → (x : X) → Contains kept x → Contains xs x
those_from none x c = c
those_from (keep {x = y} {xs} {kept} h rest) x c =
    elim (Contains-cases y kept c) [ inl is ↦ Contains-here xs is | inr behind ↦ Contains-there y xs (those_from rest x behind) ]
those_from (skip {x = y} {xs} other rest) x c = Contains-there y xs (those_from rest x c)

text_is_at : (f : Facts) (c d : Cursor) (text : List ℕ) → IsAt f c → is_head c.key ≡ false → nat_le 30 (length c.path) ≡ false → at_text c text ≡ Ok d → IsAt f d
text_is_at f c d text is_at on deep h = by (is_short (Text text)) refl h
  where
    by : (b : Bool) → is_short (Text text) ≡ b
        → ◌≡◌ {A = Result Cursor Refusal} (if b then Ok (record { path = c.path ++ tagged.Map c.key ∷ []; key = Text text }) else Err BadCursor) (Ok d) → IsAt f d
    by true short h = subst (IsAt f) (ok_same h) (moved f c.path (tagged.Map c.key) (Text text) is_at on deep refl short refl)
    by false short h = absurd (ok≢err h)

index_is_at : (f : Facts) (c d : Cursor) (ids : List Id) (n : ℕ) → IsAt f c → is_head c.key ≡ false → nat_le 30 (length c.path) ≡ false
    → AreElements f c.path c.key ids → at_index c ids n ≡ Ok d → IsAt f d
index_is_at f c d ids zero is_at on deep those h = subst (IsAt f) (ok_same h) (moved f c.path (tagged.List c.key) Head is_at on deep refl refl refl)
index_is_at f c d ids (suc n) is_at on deep those h = by (slice_get ids n) refl h
  where
    by : (found : Option Id) → slice_get ids n ≡ found
        → and_then (ok_or (option_map Element found) IndexPastEnd) (λ k. Ok (record { path = c.path ++ tagged.List c.key ∷ []; key = k })) ≡ Ok d → IsAt f d
    by None e h = absurd (ok≢err h)
    by (Some i) e h =
        subst (IsAt f) (ok_same h)
        (moved f c.path (tagged.List c.key) (Element i) is_at on deep refl refl
        (any_at (id_eq i) (f.order (into_list c.path c.key)) (those_from those i (Contains-from_slice_get ids n _ e)) (id_decides.itself i)))

goes_is_at : (f : Facts) (c d : Cursor) (step : Step) → IsAt f c → Goes f c step (Ok d) → IsAt f d
goes_is_at f c d (Get text) is_at h =
    let both = ok_step (may_go_on c) (λ _. at_text c text) _ (sym h) in
    let may = may_from c both.1 in
    text_is_at f c d text is_at may.0 may.1 both.2
goes_is_at f c d (Index n) is_at h =
    let both = ok_step (may_go_on c) (λ _. at_index c h.0 n) _ (sym h.2) in
    let may = may_from c both.1 in
    index_is_at f c d h.0 n is_at may.0 may.1 h.1 both.2

abbrev IsAtIfOk : Facts → Result Cursor Refusal → Type 0
IsAtIfOk f (Ok c) = IsAt f c
IsAtIfOk f (Err e) = Unit {0}

next_is_at : (f : Facts) (step : Step) (from next : Result Cursor Refusal) → IsAtIfOk f from → MatchResult from (λ c. Goes f c step next) (λ e. next ≡ Err e) → IsAtIfOk f next
next_is_at f step (Ok c) (Ok d) is_at h = goes_is_at f c d step is_at h
next_is_at f step (Err e) (Ok d) is_at h = absurd (ok≢err (sym h))
next_is_at f step from (Err e) is_at h = tt

leads_is_at : (f : Facts) (steps : List Step) (from r : Result Cursor Refusal) → IsAtIfOk f from → Leads f steps from r → IsAtIfOk f r
leads_is_at f [] from r is_at h = subst (IsAtIfOk f) (sym h) is_at
leads_is_at f (step ∷ steps) from r is_at h = leads_is_at f steps h.0 r (next_is_at f step from h.0 is_at h.1) h.2

pub resolved_is_at : (f : Facts) (start : Cursor) (steps : List Step) (c : Cursor) → Resolves f start steps (Ok c) → IsAt f c
resolved_is_at f start steps c h = leads_is_at f steps (checked_start f start) (Ok c) (begins (checked_start f start) refl) h
  where
    begins : (r : Result Cursor Refusal) → checked_start f start ≡ r → IsAtIfOk f r
    begins (Ok d) e = start_is_at f start d e
    begins (Err cause) e = tt
