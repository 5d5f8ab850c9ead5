use Rattle.std.proofs.Common.{◌+◌, ◌∷◌, ℕ, List, length, take, sym, ap, ◌∙◌}
use Rattle.std.proofs.Math.Seq.{drop-length}
use Rattle.std.proofs.lemmas.List.{take_rest}
use Rattle.line_feed.specs.Lines.{lines}
use Rattle.line_feed.proofs.LineLemmas.{EndsFirstLine-position, is_position}
use Rattle.replica_c.proofs.Cutting.{lines-cut, lines-whole}
use Rattle.replica_c.proofs.open.cut.Goals as goal

pub returns-in-Some-clause-lines : goal.returns-in-Some-clause-lines
returns-in-Some-clause-lines c =
    let text = c.args.text.now in
    let at = c.in-Some.at in
    lines-cut text at (EndsFirstLine-position text at (sym (is_position text c.memchr.result c.memchr.ensures) ∙ c.in-Some.is))
    ∙ ap (λ (rest : List ℕ). take at text ∷ lines rest) (sym (take_rest text (at + 1)))

pub returns-in-None-clause-lines : goal.returns-in-None-clause-lines
returns-in-None-clause-lines c =
    let text = c.args.text.now in
    lines-whole text c.requires (sym (is_position text c.memchr.result c.memchr.ensures) ∙ c.in-None.is)
    ∙ ap (λ (rest : List ℕ). text ∷ lines rest) (sym (take_rest text (length text) ∙ drop-length text))
