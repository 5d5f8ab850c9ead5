-- What is told of an answer.
use Rattle.std.proofs.Common.{◌≡◌, ◌⊎◌, inl, inr, ℕ, Bool, true, false, List, [], ◌∷◌, ◌++◌, Result, Ok, Err, refl, sym, ap, ◌∙◌, subst, append-nil}
use Rattle.std.proofs.lemmas.List.{flat_map_more}
use Rattle.json_scalar.specs.Refusal.{UnlessMemory}
use Rattle.op_core.specs.Op.{Op}
use Rattle.doc_api.specs.Words.{Id, Refusal, NoMemory}
use Rattle.doc_api.specs.declared.reply.Reply.{Reply}
use Rattle.doc_api.specs.declared.reply.Reply.TheVariants.{Refused}
use Rattle.doc_rules.specs.Replica.{Replica, find_id}
use Rattle.line_proto.specs.Replies.{reply_line}
use Rattle.line_proto.specs.declared.line_reply.LineReply.TheVariants.{Answered}
use Rattle.replica_c.specs.Asking.{ask_of}
use Rattle.replica_c.specs.Runs.{MakesNone}
use Rattle.replica_c.specs.Serving.{DoesAsk, IsTold, TellsLine, op_line, op_lines, told_text}
use Rattle.replica_c.specs.declared.ask.Ask.{Ask}

pub told_alone : (told : Bool) (due text : List ℕ) → IsTold told due text → IsTold told (due ++ []) text
told_alone true due text is = is ∙ sym (append-nil due)
told_alone false due text is = tt

-- what is read of a line is done, and that is told
pub tells_asked : (r s : Replica) (line : List ℕ) (found : Result Ask Refusal) (asked : Ask) (reply : Reply) (ids : List Id) (told : Bool) (text : List ℕ)
    → UnlessMemory found (ask_of line) → found ≡ Ok asked → DoesAsk r (Ok asked) reply ids s ⊎ MakesNone r NoMemory reply ids s
    → IsTold told (told_text reply ids s.log) text → TellsLine r line told s text
tells_asked r s line found asked reply ids told text h is (inl does) given =
    let due : found ≡ ask_of line = h (λ (memory : found ≡ Err NoMemory). cc) in
    (reply, ids, inl (subst (λ (a : Result Ask Refusal). DoesAsk r a reply ids s) (sym is ∙ due) does), given)
tells_asked r s line found asked reply ids told text h is (inr lacks) given = (reply, ids, inr lacks, given)

-- what can't be read is refused so, or memory lacked for reading it
pub tells_refusal : (r s : Replica) (line : List ℕ) (found : Result Ask Refusal) (cause : Refusal) (told : Bool) (text : List ℕ)
    → UnlessMemory found (ask_of line) → found ≡ Err cause → s ≡ r → IsTold told (reply_line (Answered (Refused cause))) text
    → TellsLine r line told s text
tells_refusal r s line found NoMemory told text h is same given =
    (Refused NoMemory, [], inr (refl, refl, same), told_alone told (reply_line (Answered (Refused NoMemory))) text given)
tells_refusal r s line found cause told text h is same given =
    let due : found ≡ ask_of line = h (λ (memory : found ≡ Err NoMemory). cc) in (
      Refused cause,
      [],
      inl (subst (λ (asked : Result Ask Refusal). DoesAsk r asked (Refused cause) [] s) (sym is ∙ due) (refl, refl, same)),
      told_alone told (reply_line (Answered (Refused cause))) text given,
    )

-- ---- lines one behind another

pub lines_more : (log : List Op) (ids : List Id) (id : Id) → op_lines log ids ++ op_line (find_id log id) ≡ op_lines log (ids ++ id ∷ [])
lines_more log ids id = flat_map_more (λ i. op_line (find_id log i)) [] ids id

-- a reply, and behind it the lines where they could be put
pub told_both : (told put : Bool) (due lines before after : List ℕ) → told ≡ true → IsTold told due before
    → (put ≡ true → after ≡ before ++ lines) → IsTold put (due ++ lines) after
told_both true true due lines before after is given then = then refl ∙ ap (λ text. text ++ lines) given
told_both true false due lines before after is given then = tt
told_both false put due lines before after is given then = cc
