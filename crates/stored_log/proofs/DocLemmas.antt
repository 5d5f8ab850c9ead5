-- Documents in the order of their names, one of which gets more entries.
use Rattle.std.proofs.Common.{◌≡◌, ◌≢◌, ◌⊎◌, inl, inr, ◌≤◌, ◌<◌, ℕ, zero, suc, List, [], ◌∷◌, ◌++◌, length, get_or, set, Bool, true, false, cond, ◌||◌, Some, None, Option, unwrap_or, Contains, refl, sym, ap, subst, ◌∙◌, append-nil, arith, Ordering, Less, Equal, Greater}
use Rattle.std.specs.List.{position, position_or_len, list_any, insert}
use Rattle.std.specs.Ordering.{is_lt}
use Rattle.std.proofs.lemmas.List.Quantifiers.{position-Some}
use Rattle.std.proofs.lemmas.List.Sums.{fails_before_first}
use Rattle.std.proofs.lemmas.Slice.Eq.{bytes_eq-Decides}
use Rattle.op_log.proofs.Fronts.{names_differ}
use borrow.Author.Tests.{ltb-false}
use Rattle.lamport_id.specs.Name.{is_name}
use Rattle.doc_api.specs.Words.{name_cmp, Op}
use Rattle.list_laws.proofs.IdOrder.{transitive, compared}
use Rattle.list_laws.proofs.Members.{Contains-nil, Contains-here, Contains-there, Contains-cases}
use Rattle.crdt_rules.specs.Log.{IsGood}
use Rattle.doc_rules.proofs.OneAnswer.{name_order}
use Rattle.stored_log.specs.Docs.{Doc, AreInOrder, IsGoodDoc, AreGood, is_named, log_of, longer_by, extend, put_doc, add_log, add_batch}

-- ---- what a search finds

module _ (name : List ℕ) where
  pub extend_there : (more : List Op) (docs : List Doc) (at : ℕ) (d : Doc) → at < length docs → is_named name (get_or docs at d) ≡ true
      → ((k : ℕ) → k < at → is_named name (get_or docs k d) ≡ false) → set docs at (longer_by more (get_or docs at d)) ≡ extend name more docs
  extend_there more [] at d below hit earlier = absurd (omega arith)
  extend_there more (x ∷ docs) zero d below hit earlier = rw hit refl
  extend_there more (x ∷ docs) (suc at) d below hit earlier =
      rw (earlier 0 (omega arith)) (ap (λ z. x ∷ z) (extend_there more docs at d (omega arith) hit (λ k h. earlier (suc k) (omega arith))))

  pub log_there : (docs : List Doc) (at : ℕ) (d : Doc) → at < length docs → is_named name (get_or docs at d) ≡ true → ((k : ℕ) → k < at → is_named name (get_or docs k d) ≡ false)
      → log_of name docs ≡ (get_or docs at d).log
  log_there [] at d below hit earlier = absurd (omega arith)
  log_there (x ∷ docs) zero d below hit earlier = rw hit refl
  log_there (x ∷ docs) (suc at) d below hit earlier = rw (earlier 0 (omega arith)) (log_there docs at d (omega arith) hit (λ k h. earlier (suc k) (omega arith)))

  pub any_there : (docs : List Doc) (at : ℕ) (d : Doc) → at < length docs → is_named name (get_or docs at d) ≡ true → list_any (λ e. is_named name e) docs ≡ true
  any_there [] at d below hit = absurd (omega arith)
  any_there (x ∷ docs) zero d below hit = rw hit refl
  any_there (x ∷ docs) (suc at) d below hit = go (is_named name x) (any_there docs at d (omega arith) hit)
    where
      go : (b : Bool) → list_any (λ e. is_named name e) docs ≡ true → (b || list_any (λ e. is_named name e) docs) ≡ true
      go true later = refl
      go false later = later

  pub log_nowhere : (docs : List Doc) (d : Doc) → ((k : ℕ) → k < length docs → is_named name (get_or docs k d) ≡ false) → (log_of name docs ≡ []) × (list_any (λ e. is_named name e) docs ≡ false)
  log_nowhere [] d others = (refl, refl)
  log_nowhere (x ∷ docs) d others =
      let later = log_nowhere docs d (λ k h. others (suc k) (omega arith)) in (rw (others 0 (omega arith)) later.0, rw (others 0 (omega arith)) later.1)

  -- the log of a document that isn't there
  pub log_if_none : (docs : List Doc) → list_any (λ e. is_named name e) docs ≡ false → log_of name docs ≡ []
  log_if_none [] none = refl
  log_if_none (x ∷ docs) none = go (is_named name x) none (log_if_none docs)
    where
      go : (b : Bool) → (b || list_any (λ e. is_named name e) docs) ≡ false → (list_any (λ e. is_named name e) docs ≡ false → log_of name docs ≡ []) → cond b x.log (log_of name docs) ≡ []
      go true none later = absurd cc
      go false none later = later none

past_end : (b : Bool) (i : ℕ) → cond b (Some i) None ≡ None → b ≡ false
past_end true i h = cc
past_end false i h = refl

no_doc : Doc
no_doc = record { name = []; log = [] }

module _ (test : Doc → Bool) (docs : List Doc) (none : position test docs ≡ None) where
  nowhere : (d : Doc) (k : ℕ) → k < length docs → test (get_or docs k d) ≡ false
  nowhere d k h = let past = ltb-false _ _ (past_end _ (position_or_len test docs) none) in fails_before_first test docs k d (omega (arith, past))

module _ (name : List ℕ) (docs : List Doc) (at : ℕ) (d : Doc) (found : position (λ e. is_named name e) docs ≡ Some at) where
  pub log_at : log_of name docs ≡ (get_or docs at d).log
  log_at = let h = position-Some (λ e. is_named name e) docs at d found in log_there name docs at d h.0 h.1 h.2

  pub extend_at : (more : List Op) → set docs at (longer_by more (get_or docs at d)) ≡ add_log name more docs
  extend_at more = let h = position-Some (λ e. is_named name e) docs at d found in rw (any_there name docs at d h.0 h.1) (extend_there name more docs at d h.0 h.1 h.2)

module _ (name : List ℕ) (docs : List Doc) (none : position (λ e. is_named name e) docs ≡ None) where
  pub log_none : log_of name docs ≡ []
  log_none = (log_nowhere name docs no_doc (nowhere (λ e. is_named name e) docs none no_doc)).0

  pub put_if_none : (more : List Op) → put_doc (record { name = name; log = more }) docs ≡ add_log name more docs
  put_if_none more = rw ((log_nowhere name docs no_doc (nowhere (λ e. is_named name e) docs none no_doc)).1) refl

-- ---- where a new document goes

abbrev is_less_than : List ℕ → Doc → Bool
is_less_than name d = is_lt (name_cmp name d.name)

pub put_there : (new : Doc) (docs : List Doc) (at : ℕ) (d : Doc) → at ≤ length docs → ((k : ℕ) → k < at → is_less_than new.name (get_or docs k d) ≡ false)
    → (at < length docs → is_less_than new.name (get_or docs at d) ≡ true) → insert docs at new ≡ put_doc new docs
put_there new [] zero d within earlier hit = refl
put_there new [] (suc at) d within earlier hit = absurd (omega arith)
put_there new (x ∷ docs) zero d within earlier hit = rw (hit (omega arith)) refl
put_there new (x ∷ docs) (suc at) d within earlier hit =
    rw (earlier 0 (omega arith)) (ap (λ z. x ∷ z) (put_there new docs at d (omega arith) (λ k h. earlier (suc k) (omega arith)) (λ h. hit (omega arith))))

put_at : (new : Doc) (docs : List Doc) (at : ℕ) → position (λ e. is_lt (name_cmp new.name e.name)) docs ≡ Some at → insert docs at new ≡ put_doc new docs
put_at new docs at found = let h = position-Some (λ e. is_less_than new.name e) docs at no_doc found in put_there new docs at no_doc (omega (arith, h.0)) h.2 (λ below. h.1)

put_last : (new : Doc) (docs : List Doc) → position (λ e. is_lt (name_cmp new.name e.name)) docs ≡ None → insert docs (length docs) new ≡ put_doc new docs
put_last new docs none = put_there new docs (length docs) no_doc (omega arith) (nowhere (λ e. is_less_than new.name e) docs none no_doc) (λ below. absurd (omega arith))

-- before the first document with a greater name, or at the end
pub put_where : (new : Doc) (docs : List Doc) → insert docs (unwrap_or (position (λ e. is_lt (name_cmp new.name e.name)) docs) (length docs)) new ≡ put_doc new docs
put_where new docs = go (position (λ e. is_lt (name_cmp new.name e.name)) docs) refl
  where
    go : (o : Option ℕ) → position (λ e. is_lt (name_cmp new.name e.name)) docs ≡ o → insert docs (unwrap_or o (length docs)) new ≡ put_doc new docs
    go (Some at) is = put_at new docs at is
    go None is = put_last new docs is

-- ---- their order

extended_from : (name : List ℕ) (more : List Op) (docs : List Doc) {y : Doc} → Contains (extend name more docs) y → (x : Doc) × Contains docs x × (x.name ≡ y.name)
extended_from name more [] c = absurd (Contains-nil c)
extended_from name more (x ∷ docs) {y} c = go (is_named name x) c (λ c. extended_from name more docs c)
  where
    go : (b : Bool) → Contains (cond b (longer_by more x ∷ docs) (x ∷ extend name more docs)) y → (Contains (extend name more docs) y → (x : Doc) × Contains docs x × (x.name ≡ y.name))
        → (z : Doc) × Contains (x ∷ docs) z × (z.name ≡ y.name)
    go true c later = elim (Contains-cases (longer_by more x) docs c) [
      | inl is ↦ (x, Contains-here docs refl, ap (λ (d : Doc). d.name) is)
      | inr behind ↦ (y, Contains-there x docs behind, refl)
    ]
    go false c later = elim (Contains-cases x (extend name more docs) c) [
      | inl is ↦ (x, Contains-here docs refl, ap (λ (d : Doc). d.name) is)
      | inr behind ↦ let r = later behind in (r.0, Contains-there x docs r.1, r.2)
    ]

order_extended : (name : List ℕ) (more : List Op) (docs : List Doc) → AreInOrder docs → AreInOrder (extend name more docs)
order_extended name more [] h = tt
order_extended name more (x ∷ docs) h = go (is_named name x) (order_extended name more docs h.1)
  where
    go : (b : Bool) → AreInOrder (extend name more docs) → AreInOrder (cond b (longer_by more x ∷ docs) (x ∷ extend name more docs))
    go true later = (h.0, h.1)
    go false later = ((λ y c. let r = extended_from name more docs c in subst (λ n. name_cmp x.name n ≡ Less) r.2 (h.0 r.0 r.1)), later)

put_from : (new : Doc) (docs : List Doc) {y : Doc} → Contains (put_doc new docs) y → (new ≡ y) ⊎ Contains docs y
put_from new [] c = Contains-cases new [] c
put_from new (x ∷ docs) {y} c = go (is_lt (name_cmp new.name x.name)) c (λ c. put_from new docs c)
  where
    go : (b : Bool) → Contains (cond b (new ∷ x ∷ docs) (x ∷ put_doc new docs)) y → (Contains (put_doc new docs) y → (new ≡ y) ⊎ Contains docs y) → (new ≡ y) ⊎ Contains (x ∷ docs) y
    go true c later = Contains-cases new (x ∷ docs) c
    go false c later = elim (Contains-cases x (put_doc new docs) c) [
      | inl is ↦ inr (Contains-here docs is)
      | inr behind ↦ elim (later behind) [ inl new ↦ inl new | inr old ↦ inr (Contains-there x docs old) ]
    ]

order_put : (new : Doc) (docs : List Doc) → list_any (λ e. is_named new.name e) docs ≡ false → AreInOrder docs → AreInOrder (put_doc new docs)
order_put new [] none h = ((λ y c. absurd (Contains-nil c)), tt)
order_put new (x ∷ docs) none h = other (is_named new.name x) refl none (order_put new docs)
  where
    after : (r : Ordering) → name_cmp new.name x.name ≡ r → is_lt r ≡ false → new.name ≢ x.name → name_cmp x.name new.name ≡ Less
    after r e not_less apart = elim (compared name_order new.name x.name) [
      | inl less ↦ absurd (let f : is_lt Less ≡ false = subst (λ z. is_lt z ≡ false) (sym e ∙ less) not_less in cc)
      | inr (inl is) ↦ absurd (apart is)
      | inr (inr greater) ↦ greater
    ]

    behind_it : name_cmp x.name new.name ≡ Less → AreInOrder (put_doc new docs) → AreInOrder (x ∷ put_doc new docs)
    behind_it less later = ((λ y c. elim (put_from new docs c) [ inl is ↦ subst (λ (z : Doc). name_cmp x.name z.name ≡ Less) is less | inr old ↦ h.0 y old ]), later)

    go : (r : Ordering) → name_cmp new.name x.name ≡ r → new.name ≢ x.name → AreInOrder (put_doc new docs) → AreInOrder (cond (is_lt r) (new ∷ x ∷ docs) (x ∷ put_doc new docs))
    go Less e apart later =
        ((λ y c. elim (Contains-cases x docs c) [ inl is ↦ subst (λ (z : Doc). name_cmp new.name z.name ≡ Less) is e | inr late ↦ transitive name_order {x = new.name} {y = x.name} {z = y.name} e (h.0 y late) ]), h)
    go Equal e apart later = behind_it (after Equal e refl apart) later
    go Greater e apart later = behind_it (after Greater e refl apart) later

    other : (b : Bool) → is_named new.name x ≡ b → (b || list_any (λ e. is_named new.name e) docs) ≡ false → (list_any (λ e. is_named new.name e) docs ≡ false → AreInOrder docs → AreInOrder (put_doc new docs))
        → AreInOrder (put_doc new (x ∷ docs))
    other true is none later = absurd cc
    other false is none later =
        go (name_cmp new.name x.name) refl (λ e. absurd (let same = (bytes_eq-Decides x.name new.name).1 (sym e) in let differs = is in cc)) (later none h.1)

pub still_in_order : (name : List ℕ) (more : List Op) (docs : List Doc) → AreInOrder docs → AreInOrder (add_log name more docs)
still_in_order name more docs h = go (list_any (λ e. is_named name e) docs) refl
  where
    go : (b : Bool) → list_any (λ e. is_named name e) docs ≡ b → AreInOrder (cond b (extend name more docs) (put_doc (record { name = name; log = more }) docs))
    go true is = order_extended name more docs h
    go false is = order_put (record { name = name; log = more }) docs is h

-- ---- they stay good

not_nil : (xs ys : List Op) → ys ≢ [] → xs ++ ys ≢ []
not_nil [] ys some e = some e
not_nil (x ∷ xs) ys some e = absurd cc

good_extended : (name : List ℕ) (more : List Op) (docs : List Doc) → more ≢ [] → AreGood docs → IsGood (log_of name docs ++ more) → AreGood (extend name more docs)
good_extended name more [] some h good = tt
good_extended name more (x ∷ docs) some h good = go (is_named name x) good (good_extended name more docs some h.1)
  where
    go : (b : Bool) → IsGood (cond b x.log (log_of name docs) ++ more) → (IsGood (log_of name docs ++ more) → AreGood (extend name more docs)) → AreGood (cond b (longer_by more x ∷ docs) (x ∷ extend name more docs))
    go true good later = (record { named = h.0.named; some = not_nil x.log more some; good = good }, h.1)
    go false good later = (h.0, later good)

good_put : (new : Doc) (docs : List Doc) → IsGoodDoc new → AreGood docs → AreGood (put_doc new docs)
good_put new [] good h = (good, tt)
good_put new (x ∷ docs) good h = go (is_lt (name_cmp new.name x.name)) (good_put new docs good h.1)
  where
    go : (b : Bool) → AreGood (put_doc new docs) → AreGood (cond b (new ∷ x ∷ docs) (x ∷ put_doc new docs))
    go true later = (good, h)
    go false later = (h.0, later)

pub still_good : (name : List ℕ) (more : List Op) (docs : List Doc) → is_name name ≡ true → more ≢ [] → AreGood docs → IsGood (log_of name docs ++ more) → AreGood (add_log name more docs)
still_good name more docs named some h good = go (list_any (λ e. is_named name e) docs) refl
  where
    go : (b : Bool) → list_any (λ e. is_named name e) docs ≡ b → AreGood (cond b (extend name more docs) (put_doc (record { name = name; log = more }) docs))
    go true is = good_extended name more docs some h good
    go false is = good_put (record { name = name; log = more }) docs (record { named = named; some = some; good = rw (log_if_none name docs is) at good }) h

-- ---- what one document has then, and the others

log_extended : (name : List ℕ) (more : List Op) (docs : List Doc) → list_any (λ e. is_named name e) docs ≡ true → log_of name (extend name more docs) ≡ log_of name docs ++ more
log_extended name more [] some = absurd cc
log_extended name more (x ∷ docs) some = go (is_named name x) refl some (log_extended name more docs)
  where
    go : (b : Bool) → is_named name x ≡ b → (b || list_any (λ e. is_named name e) docs) ≡ true
        → (list_any (λ e. is_named name e) docs ≡ true → log_of name (extend name more docs) ≡ log_of name docs ++ more)
        → log_of name (cond b (longer_by more x ∷ docs) (x ∷ extend name more docs)) ≡ cond b x.log (log_of name docs) ++ more
    go true is some later = rw is refl
    go false is some later = rw is (later some)

log_put : (name : List ℕ) (more : List Op) (docs : List Doc) → list_any (λ e. is_named name e) docs ≡ false → log_of name (put_doc (record { name = name; log = more }) docs) ≡ more
log_put name more [] none = rw ((bytes_eq-Decides name name).1 refl) refl
log_put name more (x ∷ docs) none = other (is_named name x) refl none (log_put name more docs)
  where
    go : (b : Bool) → is_named name x ≡ false → log_of name (put_doc (record { name = name; log = more }) docs) ≡ more
        → log_of name (cond b (record { name = name; log = more } ∷ x ∷ docs) (x ∷ put_doc (record { name = name; log = more }) docs)) ≡ more
    go true is later = rw ((bytes_eq-Decides name name).1 refl) refl
    go false is later = rw is later

    other : (b : Bool) → is_named name x ≡ b → (b || list_any (λ e. is_named name e) docs) ≡ false → (list_any (λ e. is_named name e) docs ≡ false → log_of name (put_doc (record { name = name; log = more }) docs) ≡ more)
        → log_of name (put_doc (record { name = name; log = more }) (x ∷ docs)) ≡ more
    other true is none later = absurd cc
    other false is none later = go (is_lt (name_cmp name x.name)) is (later none)

pub log_added : (name : List ℕ) (more : List Op) (docs : List Doc) → log_of name (add_log name more docs) ≡ log_of name docs ++ more
log_added name more docs = go (list_any (λ e. is_named name e) docs) refl
  where
    go : (b : Bool) → list_any (λ e. is_named name e) docs ≡ b → log_of name (cond b (extend name more docs) (put_doc (record { name = name; log = more }) docs)) ≡ log_of name docs ++ more
    go true is = log_extended name more docs is
    go false is = rw (log_if_none name docs is) (log_put name more docs is)

others_extended : (name other : List ℕ) (more : List Op) (docs : List Doc) → name ≢ other → log_of other (extend name more docs) ≡ log_of other docs
others_extended name other more [] apart = refl
others_extended name other more (x ∷ docs) apart = go (is_named name x) refl (others_extended name other more docs apart)
  where
    go : (b : Bool) → is_named name x ≡ b → log_of other (extend name more docs) ≡ log_of other docs → log_of other (cond b (longer_by more x ∷ docs) (x ∷ extend name more docs)) ≡ log_of other (x ∷ docs)
    go true is later = rw (names_differ x.name other (λ e. apart (sym ((bytes_eq-Decides x.name name).0 is) ∙ e))) refl
    go false is later = ap (λ z. cond (is_named other x) x.log z) later

others_put : (new : Doc) (other : List ℕ) (docs : List Doc) → new.name ≢ other → log_of other (put_doc new docs) ≡ log_of other docs
others_put new other [] apart = rw (names_differ new.name other apart) refl
others_put new other (x ∷ docs) apart = go (is_lt (name_cmp new.name x.name)) (others_put new other docs apart)
  where
    go : (b : Bool) → log_of other (put_doc new docs) ≡ log_of other docs → log_of other (cond b (new ∷ x ∷ docs) (x ∷ put_doc new docs)) ≡ log_of other (x ∷ docs)
    go true later = rw (names_differ new.name other apart) refl
    go false later = ap (λ z. cond (is_named other x) x.log z) later

pub others_kept : (name other : List ℕ) (more : List Op) (docs : List Doc) → name ≢ other → log_of other (add_log name more docs) ≡ log_of other docs
others_kept name other more docs apart = go (list_any (λ e. is_named name e) docs)
  where
    go : (b : Bool) → log_of other (cond b (extend name more docs) (put_doc (record { name = name; log = more }) docs)) ≡ log_of other docs
    go true = others_extended name other more docs apart
    go false = others_put (record { name = name; log = more }) other docs apart

-- ---- batches

pub batch_added : (name : List ℕ) (more : List Op) (docs : List Doc) → log_of name (add_batch name more docs) ≡ log_of name docs ++ more
batch_added name [] docs = sym (append-nil (log_of name docs))
batch_added name (op ∷ more) docs = log_added name (op ∷ more) docs

pub batch_others : (name other : List ℕ) (more : List Op) (docs : List Doc) → name ≢ other → log_of other (add_batch name more docs) ≡ log_of other docs
batch_others name other [] docs apart = refl
batch_others name other (op ∷ more) docs apart = others_kept name other (op ∷ more) docs apart
