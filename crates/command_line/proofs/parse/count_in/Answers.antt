use Rattle.std.proofs.Common.{ℕ, Bool, Option, MatchOption, codes, option_map, subst, ◌∙◌}
use Rattle.clap.specs.Words.{Text, first_of, found_of, rows_of}
use Rattle.clap.proofs.WalkLemmas.{first_value-rows}
use Rattle.command_line.specs.CommandLine.{SaysCount}
use Rattle.command_line.proofs.parse.count_in.Goals as goal

pub returns : goal.returns
returns c =
    let found = found_of c.args.matches.now in
    let sessions = c.get_str.ensures ∙ first_value-rows found (codes "sessions") in
    let clients = c.get_str-2.ensures ∙ first_value-rows found (codes "clients") in
    subst (λ (o : Option Text). MatchOption c.counted_of.result ((n : ℕ) → (b : Bool) → SaysCount (first_of (codes "sessions") (rows_of found)) o n b → ⊥)
    (λ count. SaysCount (first_of (codes "sessions") (rows_of found)) o count.sessions count.stays)) clients
    (subst (λ (o : Option Text). MatchOption c.counted_of.result ((n : ℕ) → (b : Bool) → SaysCount o (option_map (λ s. s.now) c.get_str-2.result) n b → ⊥)
    (λ count. SaysCount o (option_map (λ s. s.now) c.get_str-2.result) count.sessions count.stays)) sessions c.counted_of.ensures)
