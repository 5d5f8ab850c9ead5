-- Rows that stay.
use Rattle.std.proofs.Common.{◌≡◌, ◌⊎◌, inl, inr, ◌↔◌, ℕ, true, false, List, [], Option, Some, None, Result, Ok, Err, OnOk, sym, ap, subst, ◌∙◌}
use Rattle.stored_log.specs.declared.fault.Fault.{Fault}
use Rattle.stored_log.specs.declared.fault.Fault.TheVariants.{Store}
use Rattle.share_ledger.specs.Begun.{Origin}
use Rattle.stored_log.specs.Log.{KeepsAll, LogState}
use Rattle.locked_doc.specs.Followed.{Copying}
use Rattle.served_log.specs.Batches.{AreAdded, AddsBatches, HasCopied}
use Rattle.served_log.specs.Known.{AllDiffer, AreKnown, StaysKnown}
use Rattle.served_log.specs.Batches.AreAdded.{none}
use Rattle.served_log.specs.Restored.{origin_at}
use Rattle.served_log.specs.Served.{KeepsRows}

-- nothing was added
pub no_batches : {origin : ℕ → Origin} {names : List (List ℕ)} {old new : LogState} → new ≡ old → AddsBatches origin names old new
no_batches {origin = origin} {names = names} {old = old} same = record {
  any = false;
  added = subst (λ ds. AreAdded origin names old.docs false ds) (sym (ap (λ k. k.docs) same)) none;
  epoch = ap (λ k. k.epoch) same;
}

-- What a copier left, if it ran at all, of the log and of its seats. It did where the sessions could
-- be gathered.
abbrev pub IsLeft : {L X F : Type 0} → (ℕ → Origin) → (L → LogState) → Result X F → List (List ℕ) → L → L → List Copying → List Copying → Option Fault → Type 0
IsLeft origin log ran names old new before after fault = (OnOk ran ⊥ × (new ≡ old) × (after ≡ before)) ⊎ HasCopied origin names (log old) (log new) before after fault

-- the same, stated of what the copier was lent
pub same_left : {L X F : Type 0} (origin : ℕ → Origin) (log : L → LogState) (ran : Result X F) {names : List (List ℕ)} {a old b new : L} {c before d after : List Copying} {f fault : Option Fault}
    → IsLeft origin log ran names a b c d f → a ≡ old → b ≡ new → c ≡ before → d ≡ after → fault ≡ f → IsLeft origin log ran names old new before after fault
same_left origin log ran {names = names} {old = old} {b = b} {new = new} {c = c} {before = before} {d = d} {after = after} {f = f} left begun ended seats seats_left why =
    let begins : IsLeft origin log ran names old b c d f = subst (λ k. IsLeft origin log ran names k b c d f) begun left in
    let ends : IsLeft origin log ran names old new c d f = subst (λ k. IsLeft origin log ran names old k c d f) ended begins in
    let seated : IsLeft origin log ran names old new before d f = subst (λ s. IsLeft origin log ran names old new s d f) seats ends in
    let unseated : IsLeft origin log ran names old new before after f = subst (λ s. IsLeft origin log ran names old new before s f) seats_left seated in
    subst (λ w. IsLeft origin log ran names old new before after w) (sym why) unseated

pub copied_if_ran : {L X F : Type 0} (origin : ℕ → Origin) (log : L → LogState) (ran : Result X F) {names shelved : List (List ℕ)} {old new : L} {before after : List Copying} {fault : Option Fault} (gathered : X)
    → ran ≡ Ok gathered → shelved ≡ names → IsLeft origin log ran shelved old new before after fault → HasCopied origin names (log old) (log new) before after fault
copied_if_ran origin log ran gathered is same (inl untouched) = absurd (subst (λ r. OnOk r ⊥) is untouched.0)
copied_if_ran origin log ran {old = old} {new = new} {before = before} {after = after} {fault = fault} gathered is same (inr copied) =
    subst (λ ns. HasCopied origin ns (log old) (log new) before after fault) same copied

-- what the copier knew at the end, where no fault ended it
pub known_if_well : {origin : ℕ → Origin} {names : List (List ℕ)} {old new : LogState} {before after : List Copying} {fault : Option Fault} → HasCopied origin names old new before after fault → fault ≡ None
    → AreKnown old.docs names before → AllDiffer names → AreKnown new.docs names after
known_if_well {names = names} {old = old} {new = new} {before = before} {after = after} {fault = fault} copied well known differ = go copied.known
  where
    go : (fault ≡ Some Store) ⊎ StaysKnown names old.docs before new.docs after → AreKnown new.docs names after
    go (inl store) = let both : ◌≡◌ {A = Option Fault} None (Some Store) = sym well ∙ store in absurd cc
    go (inr stays) = stays differ known

pub grown_beside : {L X F : Type 0} (origin : ℕ → Origin) (log : L → LogState) (ran : Result X F) {names shelved : List (List ℕ)} {old new : L} {before after : List Copying} {fault : Option Fault}
    → shelved ≡ names → IsLeft origin log ran shelved old new before after fault → (log new).has_failed ≡ false → AddsBatches origin names (log old) (log new)
grown_beside origin log ran same (inl untouched) works = no_batches (ap log untouched.1)
grown_beside origin log ran {old = old} {new = new} same (inr copied) works = subst (λ ns. AddsBatches origin ns (log old) (log new)) same (copied.grown works)

pub alone_beside : {L X F : Type 0} (origin : ℕ → Origin) (log : L → LogState) (ran : Result X F) {names : List (List ℕ)} {old new : L} {before after : List Copying} {fault : Option Fault}
    → IsLeft origin log ran names old new before after fault → (log new).is_alone ≡ (log old).is_alone
alone_beside origin log ran (inl untouched) = ap (λ k. (log k).is_alone) untouched.1
alone_beside origin log ran (inr copied) = copied.alone

-- a start that came to nothing keeps the rows, unless the store failed
pub kept_by_start : {X : Type 0} {names : List (List ℕ)} {old new : LogState} {r : Result X Fault} → ((r ≡ Err Store) ↔ (new.has_failed ≡ true))
    → (r ≡ Err Store) ⊎ KeepsAll old new.epoch new.docs → new.has_failed ≡ false → KeepsRows names old new
kept_by_start failed (inl store) works = let both : true ≡ false = sym (failed.0 store) ∙ works in absurd cc
kept_by_start {names = names} {old = old} failed (inr kept) works = record {
  replica = [];
  any = false;
  added = subst (λ ds. AreAdded (origin_at [] old.docs names) names old.docs false ds) (sym kept.same_docs) none;
  epoch = kept.no_less;
}

-- what follows where a call ended well
pub then_ok : {X F P Q : Type 0} (r : Result X F) → OnOk r P → (P → Q) → OnOk r Q
then_ok (Ok x) p f = f p
then_ok (Err e) p f = tt

-- the same of two facts
pub ok_of_both : {X F P Q R : Type 0} (r : Result X F) → OnOk r P → OnOk r Q → (P → Q → R) → OnOk r R
ok_of_both (Ok x) p q f = f p q
ok_of_both (Err e) p q f = tt
