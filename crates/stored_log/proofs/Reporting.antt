-- What was written is a report of a stored log, the refusal of one, or a part of either.
use Rattle.std.proofs.Common.{◌≡◌, ◌⊎◌, inl, inr, ℕ, List, Option, Result, Ok, Err, IfOk, IfErr, IsOkAnd, refl, subst}
use Rattle.std.specs.Io.KnownBytes.{Appends}
use Rattle.line_feed.specs.Cut.{AppendsCut}
use Rattle.stored_log.specs.Docs.{Doc, AreInOrder, AreGood}
use Rattle.stored_log.specs.Log.{LogState}
use Rattle.stored_log.specs.Report.{IsReport, Reports, StopsShort, refusal_line, report}

is_report : (docs : List Doc) (epoch : ℕ) → AreInOrder docs × AreGood docs → IsReport (report docs epoch)
is_report docs epoch (in_order, good) = record { docs = docs; epoch = epoch; in_order = in_order; good = good; reported = refl }

pub reports : {L F : Type 0} (log : L → LogState) (out_before out_after : Option (List ℕ)) (r : Result L F) → IfOk r (λ c. AreInOrder (log c).docs × AreGood (log c).docs)
    → IsOkAnd r (λ c. Appends out_before out_after (report (log c).docs (log c).epoch)) → Reports out_before out_after
reports log out_before out_after (Ok c) good reported = (report (log c).docs (log c).epoch, is_report (log c).docs (log c).epoch good, reported)
reports log out_before out_after (Err e) good reported = absurd reported

-- a part of a report, or nothing
pub cut_short : {Same : Type 0} (out_before out_after : Option (List ℕ)) (docs : List Doc) (epoch : ℕ) → AreInOrder docs × AreGood docs
    → AppendsCut out_before out_after (report docs epoch) ⊎ Same → StopsShort out_before out_after ⊎ Same
cut_short out_before out_after docs epoch good (inl cut) = inl (inr (report docs epoch, inl (is_report docs epoch good), cut))
cut_short out_before out_after docs epoch good (inr same) = inr same

-- the refusal, or a part of it
pub refused_short : {Same : Type 0} (out_before out_after : Option (List ℕ)) → Appends out_before out_after refusal_line ⊎ AppendsCut out_before out_after refusal_line → StopsShort out_before out_after ⊎ Same
refused_short out_before out_after (inl whole) = inl (inl whole)
refused_short out_before out_after (inr cut) = inl (inr (refusal_line, inr refl, cut))

pub cut_of : {T E : Type 0} (Same : Type 0) (r : Result T E) (out_before out_after : Option (List ℕ)) (text due : List ℕ) → text ≡ due → IfErr r (λ _. AppendsCut out_before out_after text) → IfErr r (λ _. AppendsCut out_before out_after due ⊎ Same)
cut_of Same (Ok x) out_before out_after text due is cut = tt
cut_of Same (Err e) out_before out_after text due is cut = inl (subst (AppendsCut out_before out_after) is cut)

pub short_of : {T E : Type 0} (Same : Type 0) (r : Result T E) (out_before out_after : Option (List ℕ)) (docs : List Doc) (epoch : ℕ) → AreInOrder docs × AreGood docs
    → IfErr r (λ _. AppendsCut out_before out_after (report docs epoch) ⊎ Same) → IfErr r (λ _. StopsShort out_before out_after ⊎ Same)
short_of Same (Ok x) out_before out_after docs epoch good cut = tt
short_of Same (Err e) out_before out_after docs epoch good cut = cut_short out_before out_after docs epoch good cut
