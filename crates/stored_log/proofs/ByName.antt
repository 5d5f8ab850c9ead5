-- The lines of documents that are looked up by their names.
use Rattle.std.proofs.Common.{◌≡◌, ◌++◌, List, [], ◌∷◌, Contains, map, flat_map, refl, ap, ◌∙◌}
use Rattle.std.proofs.lemmas.List.{get_or_default}
use Rattle.list_laws.proofs.Members.{Contains-here, Contains-there}
use Rattle.stored_log.specs.Docs.{Doc, AreInOrder, log_of}
use Rattle.stored_log.specs.Report.{doc_line, doc_lines, line_by}
use Rattle.stored_log.proofs.InOrder.{log_at_place}

-- a document among them is the one that is found by its name
log_by_name : (docs : List Doc) → AreInOrder docs → (d : Doc) → Contains docs d → log_of d.name docs ≡ d.log
log_by_name docs rising d c =
    log_at_place docs d.name c.0 rising (record {
      within = c.1;
      has_key = λ y. ap (λ (e : Doc). e.name) (get_or_default docs c.0 y d c.1 ∙ c.2);
    }) d ∙ ap (λ (e : Doc). e.log) c.2

lines_each : (docs some : List Doc) → ((d : Doc) → Contains some d → log_of d.name docs ≡ d.log)
    → flat_map (line_by docs) (map (λ (d : Doc). d.name) some) ≡ doc_lines some
lines_each docs [] found = refl
lines_each docs (d ∷ some) found =
    ap (λ log. doc_line (record { name = d.name; log = log }) ++ flat_map (line_by docs) (map (λ (e : Doc). e.name) some)) (found d (Contains-here some refl))
    ∙ ap (λ lines. doc_line d ++ lines) (lines_each docs some (λ e c. found e (Contains-there d some c)))

pub lines_by_name : (docs : List Doc) → AreInOrder docs → flat_map (line_by docs) (map (λ (d : Doc). d.name) docs) ≡ doc_lines docs
lines_by_name docs rising = lines_each docs docs (log_by_name docs rising)
