-- Batches that were added one after another.
use Rattle.std.proofs.Common.{arith, ap, ◌+◌, ◌≡◌, ◌≢◌, ◌⊎◌, inl, inr, Result, Ok, Err, IfOk, OnOk, length, List, [], ℕ, zero, suc, Bool, true, get_or, max, ltb, ◌<◌, ◌≤◌, ◌∙◌, subst, sym, refl}
use Rattle.std.proofs.Math.Nat.{max-zero, zero-lt-suc, le-max_right, lt_of_lt_of_le, lt_irrefl}
use Rattle.std.proofs.lemmas.Bool.{lt-ltb}
use Rattle.std.proofs.lemmas.List.{length-append, nil_from_length}
use Rattle.share_ledger.specs.Begun.{Origin}
use Rattle.doc_api.specs.Words.{Op}
use Rattle.json_scalar.specs.Refusal.{UnlessMemory}
use Rattle.json_scalar.specs.declared.refusal.Refusal.{Refusal}
use Rattle.doc_rules.specs.Document.{IsSound, tail}
use Rattle.locked_doc.specs.Locked.{Begins, Locked}
use Rattle.stored_log.specs.Limits.{most_rows}
use Rattle.stored_log.specs.Docs.{Doc, IsBatch, add_batch, log_of}
use Rattle.stored_log.specs.declared.fault.Fault.{Fault}
use Rattle.stored_log.specs.declared.fault.Fault.TheVariants.{Store}
use Rattle.stored_log.specs.Log.{HasBatchAgain, LogState, ShowsBatchOrNot}
use Rattle.stored_log.proofs.DocLemmas.{batch_added}
use Rattle.served_log.specs.Batches.{AddsMany, AddsOf, AreAdded, AreAddedUpTo, AddsBatches, IsNextOf}
use Rattle.served_log.specs.Batches.AreAdded.{none, more}
use Rattle.served_log.specs.Batches.AreAddedUpTo.{none_yet, one_more}

-- some, and then some more
pub added_all : {origin : ℕ → Origin} {names : List (List ℕ)} {old mid after : List Doc} {a b : Bool} → AreAdded origin names old a mid → AreAdded origin names mid b after
    → (any : Bool) × AreAdded origin names old any after
added_all {a = a} first none = (a, first)
added_all first (more next within adds) = (true, more (added_all first next).1 within adds)

pub grows_all : {origin : ℕ → Origin} {names : List (List ℕ)} {old mid new : LogState} → AddsBatches origin names old mid → AddsBatches origin names mid new
    → AddsBatches origin names old new
grows_all first next =
    let all = added_all first.added next.added in
    record { any = all.0; added = all.1; epoch = next.epoch ∙ first.epoch }

-- the same, up to a fault
pub grows_until : {origin : ℕ → Origin} {names : List (List ℕ)} {old mid new : LogState} {fault : Fault} → AddsBatches origin names old mid
    → (fault ≡ Store) ⊎ AddsBatches origin names mid new → (fault ≡ Store) ⊎ AddsBatches origin names old new
grows_until first (inl store) = inl store
grows_until first (inr next) = inr (grows_all first next)

-- a batch has entries
some_of : {name : List ℕ} {count : ℕ} {old new : List Doc} → AddsMany name count old new → 0 < count
some_of {count = zero} adds = absurd (adds.next.some (nil_from_length adds.next.ops adds.many))
some_of {count = suc n} adds = zero-lt-suc n

-- whether there was a batch
pub any_added : {origin : ℕ → Origin} {names : List (List ℕ)} {old new : List Doc} {most : ℕ} → AreAddedUpTo origin names old most new → AreAdded origin names old (ltb 0 most) new
any_added none_yet = none
any_added {origin = o} {names = ns} {old = old} (one_more {most = m} {count = n} {after = after} before within adds) =
    subst (λ any. AreAdded o ns old any after) (sym (lt-ltb 0 (max m n) (lt_of_lt_of_le (some_of adds.adds) (le-max_right m n)))) (more (any_added before) within adds)

-- the next entries of one document more, if any
adds_to_max : {origin : ℕ → Origin} {names : List (List ℕ)} {old before after : List Doc} {most count number : ℕ} → AreAddedUpTo origin names old most before
    → number < length names → (0 < count → AddsOf origin number (get_or names number []) count before after) → (count ≡ 0 → after ≡ before)
    → AreAddedUpTo origin names old (max most count) after
adds_to_max {origin = o} {names = ns} {old = old} {before = b} {most = m} {count = zero} so_far within some unless =
    subst (λ docs. AreAddedUpTo o ns old (max m 0) docs) (sym (unless refl)) (subst (λ n. AreAddedUpTo o ns old n b) (sym (max-zero m)) so_far)
adds_to_max {count = suc n} so_far within some unless = one_more so_far within (some (zero-lt-suc n))

-- the same under the name of the document
under_name : {origin : ℕ → Origin} (names : List (List ℕ)) {number count : ℕ} {name : List ℕ} {old new : List Doc} → name ≡ get_or names number []
    → AddsOf origin number name count old new → AddsOf origin number (get_or names number []) count old new
under_name {origin = o} names {number = k} {count = n} {old = old} {new = new} named adds = subst (λ it. AddsOf o k it n old new) named adds

-- the same, where the maximum was computed
pub adds_next : {origin : ℕ → Origin} {names : List (List ℕ)} {old before after : List Doc} {most count now number : ℕ} {name : List ℕ} → now ≡ max most count
    → AreAddedUpTo origin names old most before → number < length names → name ≡ get_or names number [] → (0 < count → AddsOf origin number name count before after)
    → (count ≡ 0 → after ≡ before) → AreAddedUpTo origin names old now after
adds_next {origin = o} {names = ns} {old = old} {after = a} is so_far within named some unless =
    subst (λ n. AreAddedUpTo o ns old n a) (sym is) (adds_to_max so_far within (λ more. under_name ns named (some more)) unless)

-- no batch
pub none_added : {origin : ℕ → Origin} {names : List (List ℕ)} {old new : List Doc} {most : ℕ} → AreAddedUpTo origin names old most new → most ≡ 0 → new ≡ old
none_added none_yet is_0 = refl
none_added (one_more {most = m} {count = n} before within adds) is_0 =
    absurd (lt_irrefl 0 (lt_of_lt_of_le (some_of adds.adds) (subst (λ k. n ≤ k) is_0 (le-max_right m n))))

-- what a batch that was written makes of the documents
pub adds_many : {U F : Type 0} (B C : Type 0) (r : Result U F) (name : List ℕ) (old new : List Doc) {from : ℕ} {ops : List Op} → ops ≢ [] → from ≡ length (log_of name old)
    → OnOk r ((new ≡ add_batch name ops old) × B × C) → OnOk r (IsBatch name from ops old) → OnOk r ((adds : AddsMany name (length ops) old new) × (adds.next.ops ≡ ops))
adds_many B C (Ok u) n d new {ops = o} some rows ok batch =
    (record { next = record { ops = o; some = some; batch = subst (λ k. IsBatch n k o d) rows batch; added = ok.0 }; many = refl }, refl)
adds_many B C (Err e) n d new some rows ok batch = tt

-- what is read of a document of this number, behind so many of its operations
pub next_there : (origin : ℕ → Origin) (number from : ℕ) (d : Locked) (r : Result (List Op) Refusal) → d.number ≡ number → IsSound d.document → Begins (origin d.number) d.document
    → UnlessMemory r (Ok (tail from most_rows d.document)) → IfOk r (IsNextOf origin number from)
next_there origin number from d (Ok ops) same sound begun unless =
    let is : Ok ops ≡ Ok (tail from most_rows d.document) = unless (λ none. cc) in
    let ops_are : ops ≡ tail from most_rows d.document = cc in
    (d.document, sound, subst (λ n. Begins (origin n) d.document) same begun, ops_are)
next_there origin number from d (Err cause) same sound begun unless = tt

-- a batch of what was read
pub adds_of : {name : List ℕ} {count number from : ℕ} {old new : List Doc} {entries next : List Op} (origin : ℕ → Origin) → from ≡ length (log_of name old)
    → entries ≡ next → IsNextOf origin number from next → (adds : AddsMany name (length entries) old new) × (adds.next.ops ≡ entries) → count ≡ length entries
    → AddsOf origin number name count old new
adds_of {number = number} origin behind read of (adds, these) so_many =
    record {
      adds = record { next = adds.next; many = adds.many ∙ sym so_many };
      of = subst (λ n. IsNextOf origin number n adds.next.ops) behind (subst (IsNextOf origin number _) (sym (these ∙ read)) of);
    }

-- a document with a batch more is longer
longer : (ops : List Op) (from n : ℕ) → ops ≢ [] → n ≡ from + length ops → from ≡ n → ⊥
longer ops from n some long same = some (nil_from_length ops (let none : length ops ≡ 0 = omega (arith, long, same) in none))

-- a batch that fits behind so many entries was added
then_added : {name : List ℕ} {from : ℕ} {ops : List Op} {old new : List Doc} → ops ≢ [] → from ≡ length (log_of name old) → IsBatch name from ops old → new ≡ add_batch name ops old
    → (adds : AddsMany name (length ops) old new) × (adds.next.ops ≡ ops)
then_added {name = n} {ops = o} {old = d} some rows batch added =
    (record { next = record { ops = o; some = some; batch = subst (λ k. IsBatch n k o d) rows batch; added = added }; many = refl }, refl)

-- a batch that was tried, and then found or added when the store was opened again
added_at_last : (name : List ℕ) (from : ℕ) (ops : List Op) (old mid new : List Doc) → ops ≢ [] → from ≡ length (log_of name old)
    → (mid ≡ old) ⊎ (IsBatch name from ops old × (mid ≡ add_batch name ops old))
    → ((new ≡ mid) × (length (log_of name mid) ≡ from + length ops)) ⊎ (IsBatch name from ops mid × (new ≡ add_batch name ops mid))
    → (adds : AddsMany name (length ops) old new) × (adds.next.ops ≡ ops)
added_at_last n k o old mid new some rows (inl same) (inl kept) =
    absurd (longer o k (length (log_of n mid)) some kept.1 (rows ∙ ap (λ d. length (log_of n d)) (sym same)))
added_at_last n k o old mid new some rows (inl same) (inr adds) =
    then_added some rows (subst (λ d. IsBatch n k o d) same adds.0) (adds.1 ∙ ap (λ d. add_batch n o d) same)
added_at_last n k o old mid new some rows (inr was) (inl kept) = then_added some rows was.0 (kept.0 ∙ was.1)
added_at_last n k o old mid new some rows (inr was) (inr adds) =
    let grown = ap (λ d. length (log_of n d)) was.1 ∙ (ap length (batch_added n o old) ∙ (length-append (log_of n old) o ∙ ap (λ m. m + length o) (sym rows))) in
    absurd (longer o k (length (log_of n mid)) some grown adds.0.next)

pub had_again : {name : List ℕ} {from : ℕ} {ops : List Op} {old mid new : LogState} → ops ≢ [] → from ≡ length (log_of name old.docs) → ShowsBatchOrNot name from ops old mid
    → HasBatchAgain name from ops mid new → (adds : AddsMany name (length ops) old.docs new.docs) × (adds.next.ops ≡ ops)
had_again {name = n} {from = k} {ops = o} {old = a} {mid = b} {new = c} some rows shown again =
    added_at_last n k o a.docs b.docs c.docs some rows shown.added_or_not again.whole
