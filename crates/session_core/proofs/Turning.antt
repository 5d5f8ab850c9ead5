-- What an outcome makes of a session, and what the sink keeps back, from what was done for it.
use Rattle.std.proofs.Common.{◌≡◌, inl, inr, ◌||◌, Bool, true, false, ℕ, List, [], Option, Some, None, if◌then◌else◌, refl, sym, ap, ◌∙◌, subst}
use Rattle.std.specs.Io.KnownBytes.{Appends}
use Rattle.json_scalar.specs.declared.refusal.Refusal.TheVariants.{LineTooLong}
use Rattle.line_feed.specs.Cut.{AppendsCut}
use Rattle.line_feed.specs.declared.feed.Outcome.{Outcome}
use Rattle.line_feed.specs.declared.feed.Outcome.TheVariants as outcome
use Rattle.line_proto.specs.Replies.{reply_line}
use Rattle.line_proto.specs.declared.line_reply.LineReply.{LineReply}
use Rattle.session_rules.specs.Session.{Access, Session, MayAnswerLine, is_bye, refused}
use Rattle.session_rules.specs.declared.Ending.{Ending}
use Rattle.session_rules.specs.declared.Ending.TheVariants.{Quit, End, TooLong, ReadFault, WriteFault}
use Rattle.session_core.specs.Ended.{LeavesUnflushed, Turns, WritesLine}

module _ {D : Type 0} (a : Access D) (given : Outcome) (line : List ℕ) (s : Session D) (out_before : Option (List ℕ)) where
  pub line_turns : (t : Session D) (out_after : Option (List ℕ)) (bye last : Bool) → given ≡ outcome.Line → bye ≡ last
      → (out : LineReply) × (bye ≡ is_bye out) × MayAnswerLine a s line out t × Appends out_before out_after (reply_line out)
      → Turns a given line s out_before (if last then Some Quit else None) t out_after
  line_turns t out_after bye last is last_is (out, ends, may, appended) =
      subst (λ (o : Outcome). Turns a o line s out_before (if◌then◌else◌ {A = Option Ending} last (Some Quit) None) t out_after) (sym is)
      (out, may, inl (appended, ap (λ (b : Bool). if◌then◌else◌ {A = Option Ending} b (Some Quit) None) (sym last_is ∙ ends)))

  pub cut_turns : (t : Session D) (out_after : Option (List ℕ)) → given ≡ outcome.Line
      → (out : LineReply) × MayAnswerLine a s line out t × AppendsCut out_before out_after (reply_line out)
      → Turns a given line s out_before (Some WriteFault) t out_after
  cut_turns t out_after is (out, may, cut) = subst (λ (o : Outcome). Turns a o line s out_before (Some WriteFault) t out_after) (sym is) (out, may, inr (cut, refl))

  pub long_turns : (out_after : Option (List ℕ)) (why : Option Ending) → given ≡ outcome.TooLong → WritesLine (refused LineTooLong) out_before out_after (Some TooLong) why
      → Turns a given line s out_before why s out_after
  long_turns out_after why is writes = subst (λ (o : Outcome). Turns a o line s out_before why s out_after) (sym is) (refl, writes)

  pub end_turns : given ≡ outcome.End → Turns a given line s out_before (Some End) s out_before
  end_turns is = subst (λ (o : Outcome). Turns a o line s out_before (Some End) s out_before) (sym is) (refl, refl, refl)

  pub fault_turns : given ≡ outcome.Fault → Turns a given line s out_before (Some ReadFault) s out_before
  fault_turns is = subst (λ (o : Outcome). Turns a o line s out_before (Some ReadFault) s out_before) (sym is) (refl, refl, refl)

-- ---- what is kept back

or_true : (b : Bool) → (b || true) ≡ true
or_true true = refl
or_true false = refl

module _ (given : Outcome) (waits : Bool) (kept keeps : List ℕ) where
  pub quit_keeps : (bye : Bool) → given ≡ outcome.Line → bye ≡ true → ((waits || bye) ≡ true → keeps ≡ []) → LeavesUnflushed given waits kept (Some Quit) keeps
  quit_keeps bye is ends empty =
      subst (λ (o : Outcome). LeavesUnflushed o waits kept (Some Quit) keeps) (sym is) (λ well. empty (ap (λ (b : Bool). waits || b) ends ∙ or_true waits))

  pub goes_on_keeps : (bye : Bool) → given ≡ outcome.Line → ((waits || bye) ≡ true → keeps ≡ []) → LeavesUnflushed given waits kept None keeps
  goes_on_keeps bye is empty = subst (λ (o : Outcome). LeavesUnflushed o waits kept None keeps) (sym is) (λ w. empty (ap (λ (b : Bool). b || bye) w))

  pub cut_keeps : given ≡ outcome.Line → LeavesUnflushed given waits kept (Some WriteFault) keeps
  cut_keeps is = subst (λ (o : Outcome). LeavesUnflushed o waits kept (Some WriteFault) keeps) (sym is) (λ well. absurd (well refl))

  pub long_cut_keeps : given ≡ outcome.TooLong → LeavesUnflushed given waits kept (Some WriteFault) keeps
  long_cut_keeps is = subst (λ (o : Outcome). LeavesUnflushed o waits kept (Some WriteFault) keeps) (sym is) (λ well. absurd (well refl))

  pub long_keeps : given ≡ outcome.TooLong → keeps ≡ [] → LeavesUnflushed given waits kept (Some TooLong) keeps
  long_keeps is empty = subst (λ (o : Outcome). LeavesUnflushed o waits kept (Some TooLong) keeps) (sym is) (λ well. empty)
