-- What a text that is read opens, or why nothing.
use Rattle.std.proofs.Common.{◌≡◌, ◌≢◌, inl, inr, ℕ, List, [], ◌∷◌, ◌++◌, length, map, true, false, ◌==◌, Result, Ok, Err, MatchResult, IfOk, OnOk, IfErr, refl, sym, ap, ◌∙◌, subst, append-nil, arith}
use Rattle.std.proofs.lemmas.Bool.{eqb-true}
use Rattle.std.proofs.lemmas.List.{map-append}
use Rattle.op_core.specs.Op.{Op}
use Rattle.json_scalar.specs.Refusal.{UnlessMemory, number_of}
use Rattle.doc_api.specs.Words.{Refusal, NoMemory}
use Rattle.crdt_rules.specs.Log.{IsGood}
use Rattle.doc_rules.specs.Replica.{Replica}
use Rattle.line_feed.specs.Lines.{lines}
use Rattle.replica_core.specs.Misfits.{IsMisfitOf}
use Rattle.replica_core.specs.declared.restore.Misfit.{Misfit}
use Rattle.replica_core.specs.declared.restore.Misfit.TheVariants as misfit
use Rattle.replica_c.specs.Asking.{op_of_line}
use Rattle.replica_c.specs.Stored.{AreWritten, IsUnfit, IsUnread, OpensAs}

pub unfit_read : (all read later : List (List ℕ)) (ops : List Op) (why : Misfit) → all ≡ read ++ later → AreWritten read ops
    → IsMisfitOf ops why → IsUnfit all why
unfit_read all read later ops (misfit.At place cause) is written first = inl (ops, read, later, is, written, first)
unfit_read all read later ops misfit.NoMemory is written first = tt

pub unfit_unread : (all : List (List ℕ)) (ops : List Op) (cause : Refusal) (why : Misfit) → IsUnread all ops cause → IsMisfitOf ops why
    → IsUnfit all why
unfit_unread all ops cause why unread first = unfit_read all unread.read (unread.line ∷ unread.later) ops why unread.is unread.written first

-- one more line is read
pub written_more : (read : List (List ℕ)) (ops : List Op) (line : List ℕ) (op : Op) → AreWritten read ops → op_of_line line ≡ Ok op
    → AreWritten (read ++ line ∷ []) (ops ++ op ∷ [])
written_more read ops line op written is =
    map-append op_of_line read (line ∷ []) ∙ ap (λ front. front ++ op_of_line line ∷ []) written
    ∙ ap (λ last. map (λ op. Ok op) ops ++ last ∷ []) is ∙ sym (map-append (λ op. Ok op) ops (op ∷ []))

pub read_is : (found due : Result Op Refusal) (op : Op) → UnlessMemory found due → found ≡ Ok op → due ≡ Ok op
read_is found due op h is = let same : found ≡ due = h (λ (memory : found ≡ Err NoMemory). cc) in sym same ∙ is

-- when no byte is left, all lines are read
pub read_whole : (text rest : List ℕ) (read : List (List ℕ)) (ops : List Op) → true ≡ (length rest == 0) → lines text ≡ read ++ lines rest
    → AreWritten read ops → AreWritten (lines text) ops
read_whole text [] read ops e split written = rw (split, append-nil) written
read_whole text (b ∷ bs) read ops e split written =
    let none : length (b ∷ bs) ≡ 0 = eqb-true (length (b ∷ bs)) 0 (sym e) in absurd (omega (arith, none))

pub restored_as : (r : Result Replica Misfit) (name text : List ℕ) (ops : List Op) → AreWritten (lines text) ops
    → IfOk r (λ x. x ≡ record { name = name; log = ops; held = [] }) → OnOk r (IsGood ops) → IfErr r (IsMisfitOf ops)
    → MatchResult r (OpensAs name text) (IsUnfit (lines text))
restored_as (Ok x) name text ops written is good fine = (ops, written, good, is)
restored_as (Err why) name text ops written fine good first = unfit_read (lines text) (lines text) [] ops why (sym (append-nil (lines text))) written first

pub not_memory : (n : ℕ) (cause : Refusal) → n ≡ number_of cause → (n == 22) ≡ false → cause ≢ NoMemory
not_memory n cause is other = λ (memory : cause ≡ NoMemory).
    let same : n ≡ 22 = is ∙ ap number_of memory in
    let wrong : (22 == 22) ≡ false = subst (λ (m : ℕ). (m == 22) ≡ false) same other in cc
