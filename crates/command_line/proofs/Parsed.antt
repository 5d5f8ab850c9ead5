-- What a parse says of its args, where the command is the one that is meant.
use Rattle.std.proofs.Common.{◌≡◌, ◌≢◌, List, Result, [], true, IfOk, IfErr, sym, ap, subst, ◌∙◌}
use Rattle.std.proofs.lemmas.Result.{IfOk-weaker, MatchResult-weaker}
use Rattle.clap.specs.Words.{App, FailsBy, HasKind, HasMatchesOf, Text, fault_of, found_of, is_simple, is_simple_and_free, kind_of, matches_of, rows_of}
use Rattle.clap.specs.declared.error.Error.{Error}
use Rattle.clap.specs.declared.error.kind.ErrorKind.TheVariants.{OutOfMemory}
use Rattle.clap.specs.declared.parser.matches.ArgMatches.{ArgMatches}
use Rattle.command_line.proofs.ClapFaults.{has_fault}

module _ {given meant : App} (same : given ≡ meant) (args : List Text) (r : Result ArgMatches Error) where
  -- nothing is wrong with args that are taken
  pub same_taken : is_simple_and_free meant ≡ true → (is_simple_and_free given ≡ true → FailsBy (fault_of given args) r)
      → IfOk r (λ m. fault_of meant args ≡ [])
  same_taken free fails =
      MatchResult-weaker r (fails (ap is_simple_and_free same ∙ free)) (λ m p. sym (ap (λ a. fault_of a args) same) ∙ p) (λ e p. tt)

  -- the matches are those of the args
  pub same_rows : is_simple meant ≡ true → IfOk r (HasMatchesOf given args) → IfOk r (λ m. rows_of (found_of m) ≡ matches_of meant args)
  same_rows simple matches =
      IfOk-weaker r _ _ (λ m p. (p (ap is_simple same ∙ simple)).0 ∙ ap (λ a. matches_of a args) same) matches

  -- something is wrong with args that are refused
  pub same_refused : is_simple_and_free meant ≡ true → (is_simple_and_free given ≡ true → FailsBy (fault_of given args) r)
      → IfErr r (λ e. kind_of e ≢ OutOfMemory → fault_of meant args ≢ [])
  same_refused free fails =
      MatchResult-weaker r (fails (ap is_simple_and_free same ∙ free)) (λ m p. tt)
      (λ e p other. has_fault (fault_of meant args) e (subst (λ a. HasKind (fault_of a args) e) same p) other)
