use Rattle.std.proofs.Common.{◌≡◌, false, map, rules, refl, sym, ap, ◌∙◌}
use Rattle.run_core.specs.Names.{Wanted, is_good, wanted_by}
use Rattle.command_line.proofs.Asked.{wanted_is}
use Rattle.command_line.proofs.parse.run_args.Goals as goal

pub returns-then-not-is_good-clause-refused : goal.returns-then-not-is_good-clause-refused
returns-then-not-is_good-clause-refused c = λ _.
    let is = wanted_is c.args.matches.now c.unwrap_or-name.result _ c.get_str.result c.unwrap_or-name.ensures c.get_str.ensures refl c.unwrap_or-documents.result _ c.get_strs.result c.unwrap_or-documents.ensures c.get_strs.ensures refl in
    let bad : c.is_good.result ≡ false = search rules in
    ap (λ (w : Wanted). is_good w.name w.documents) (sym is) ∙ (sym c.is_good.ensures ∙ bad)

pub returns-clause-asked : goal.returns-clause-asked
returns-clause-asked c =
    let is = wanted_is c.args.matches.now c.unwrap_or-name.result _ c.get_str.result c.unwrap_or-name.ensures c.get_str.ensures refl c.unwrap_or-documents.result _ c.get_strs.result c.unwrap_or-documents.ensures c.get_strs.ensures refl in
    ap (λ ds. wanted_by c.unwrap_or-name.result.now (map (λ s. s.now) ds)) c.in_ok-documents.ensures.same ∙ is
