-- Where a list of operations stops to be a good log.
use Rattle.std.proofs.Common.{◌≡◌, ℕ, ◌<◌, suc, List, ◌∷◌, ◌++◌, length, take, drop, get_or, Option, Some, None, Result, Ok, Err, sym, ap, subst, ◌∙◌, arith}
use Rattle.std.specs.Prelude.{⊤, IfErr, IfSome}
use Rattle.std.proofs.lemmas.List.{length-take}
use Rattle.doc_api.specs.Words.{Refusal, Op}
use Rattle.crdt_rules.specs.Log.{IsGood}
use Rattle.list_laws.proofs.Members.{split_at}
use Rattle.doc_rules.specs.Cause.{IsFirstMisfit, misfit_of}

pub misfit_here : (ops log : List Op) (place : ℕ) (op : Op) (cause : Refusal) → log ≡ take place ops → place < length ops → op ≡ get_or ops place op → IsGood log
    → misfit_of op log ≡ Err cause → IsFirstMisfit ops place cause
misfit_here ops log place op cause is within read good against = record {
  before = log;
  op = op;
  later = drop (suc place) ops;
  is = sym (ap (λ l. l ++ op ∷ drop (suc place) ops) is ∙ split_at ops place op within read);
  good = good;
  place_is = ap length is ∙ (let long = length-take place ops in omega (arith, long, within));
  cause_is = against;
}

pub lacking_here : (P : Refusal → Type 0) (r : Result ⊤ (Option Refusal)) → IfErr r (λ e. e ≡ None) → IfErr r (λ e. IfSome e P)
lacking_here P (Ok done) h = tt
lacking_here P (Err e) h = subst (λ (o : Option Refusal). IfSome o P) (sym h) tt

pub cause_of_some : (P : Refusal → Type 0) (o : Option Refusal) (cause : Refusal) → o ≡ Some cause → IfSome o P → P cause
cause_of_some P o cause is h = subst (λ (x : Option Refusal). IfSome x P) is h
