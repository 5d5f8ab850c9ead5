-- Steps of a cursor, one after another.
use Rattle.std.proofs.Common.{◌≡◌, ℕ, ◌+◌, ◌<◌, List, [], ◌∷◌, length, get_or, drop, Result, Ok, Err, refl, sym, subst}
use Rattle.doc_api.specs.Words.{Refusal, Cursor}
use Rattle.crdt_rules.specs.Facts.{Facts}
use Rattle.doc_api.specs.declared.place.Step.{Step}
use Rattle.doc_rules.specs.Resolve.{Goes, Leads}
use Rattle.list_laws.proofs.Reading.{drop_read}

-- a refusal stays
pub leads_err : (f : Facts) (steps : List Step) (e : Refusal) → Leads f steps (Err e) (Err e)
leads_err f [] e = refl
leads_err f (step ∷ steps) e = (Err e, refl, leads_err f steps e)

pub leads_step : (f : Facts) (steps : List Step) (i : ℕ) (step : Step) (c : Cursor) (next r : Result Cursor Refusal) → i < length steps
    → step ≡ get_or steps i step → Goes f c step next → Leads f (drop (i + 1) steps) next r → Leads f (drop i steps) (Ok c) r
leads_step f steps i step c next r within is goes rest =
    subst (λ (s : List Step). Leads f s (Ok c) r) (sym (drop_read steps i step within is))
    (next, goes, rest)
