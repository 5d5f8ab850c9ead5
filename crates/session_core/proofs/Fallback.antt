-- An answer whose line takes memory changes nothing, so that lack of memory may be response in its place.
use Rattle.std.proofs.Common.{◌≡◌, ◌⊎◌, inl, inr, ℕ, Bool, true, false, List, Option, Some, None, Result, Ok, Err, MatchResult, OnOk, OnErr, if◌then◌else◌, [], ◌∷◌, ◌<◌, length, refl, sym, ap, ◌∙◌, subst, arith, length-append}
use Rattle.std.specs.Io.KnownBytes.{Appends}
use Rattle.doc_api.specs.Words.{Refusal, NoMemory, Cursor}
use Rattle.json_scalar.specs.declared.refusal.Refusal.TheVariants.{VariablesFull}
use Rattle.doc_api.specs.declared.ask.Command.{Command}
use Rattle.doc_api.specs.declared.reply.Reply.{Reply}
use Rattle.doc_api.specs.declared.reply.Reply.TheVariants.{Resolved}
use Rattle.line_feed.specs.Cut.{AppendsCut}
use Rattle.line_proto.specs.Reading.{request_of}
use Rattle.line_proto.specs.Replies.{reply_line, line_reply_text}
use Rattle.line_proto.specs.Writing.{needs_heap, line_needs_heap}
use Rattle.line_proto.specs.declared.request.DocRequest.{DocRequest}
use Rattle.line_proto.specs.declared.request.DocRequest.TheVariants as ask
use Rattle.line_proto.specs.declared.request.Request.{Request}
use Rattle.line_proto.specs.declared.request.Request.TheVariants.{Of}
use Rattle.line_proto.specs.declared.line_reply.LineReply.{LineReply}
use Rattle.line_proto.specs.declared.line_reply.LineReply.TheVariants as line_reply
use Rattle.session_rules.specs.Session.{Access, KnownSeat, Session, OpenDocument, Deed, act, read, bind_to, deed_of, has_room, with_variable, put_opened, opened_at, number_of_name, refused, Binds, DoesDeed, LosesReply, Performs, Refuses, Asks, Opens, AsksOf, OnDocument, Serves, AnswersLine, MayAnswerLine, is_bye, LosesReplyTo, LosesReplyOn, LosesReplyToRequest, LosesReplyToLine}
use Rattle.session_core.specs.Fallback.{MayWrite}

-- what takes no memory to be response isn't response here
short : {P : Type 0} (response out : LineReply) → response ≡ out → line_needs_heap out ≡ false → line_needs_heap response ≡ true → P
short response out is never takes = let wrong : true ≡ false = sym takes ∙ ap line_needs_heap is ∙ never in cc

module _ {D : Type 0} (a : Access D)
    (acts_short : (old new : D) (number : ℕ) (s t : KnownSeat) (command : Command) (reply : Reply) → a.acts old number s command reply new t → needs_heap reply ≡ false)
    (s t : Session D) (response : LineReply) (takes : line_needs_heap response ≡ true) where
  -- a reply that takes memory is flushed
  binds_nothing : (old new : List (List ℕ × Cursor)) (name : List ℕ) (reply : Reply) → Binds old name reply response new → new ≡ old
  binds_nothing old new name (Resolved c) binds = go (has_room name old) binds
    where
      go : (b : Bool)
          → if◌then◌else◌ {A = LineReply × List (List ℕ × Cursor)} b (line_reply.Bound, with_variable name c old) (refused VariablesFull, old) ≡ (response, new) → new ≡ old
      go true e = short response line_reply.Bound (sym (ap (λ (x : LineReply × List (List ℕ × Cursor)). x.0) e)) refl takes
      go false e = sym (ap (λ (x : LineReply × List (List ℕ × Cursor)). x.1) e)
  binds_nothing old new name reply binds = binds.1

  does_lost : (es : D) (o p : OpenDocument) (deed : Deed) → DoesDeed a.acts a.reads s.documents o deed response es p
      → LosesReply a.acts a.reads s.documents o deed p × (es ≡ s.documents)
  does_lost es o p (act command) (reply, seat, acts, is, new) =
      short response (line_reply.Answered reply) is (acts_short s.documents es o.number o.seat seat command reply acts) takes
  does_lost es o p (read query) (reply, seat, reads, is, same, new) = ((reply, seat, reads, new), same)
  does_lost es o p (bind_to name place) (reply, seat, variables, reads, binds, same, new) =
      ((reply, seat, reads, new ∙ ap (λ v. record o { seat = seat; variables = v }) (binds_nothing o.variables variables name reply binds)), same)

  asks_lost : (ask : DocRequest) (found : Option OpenDocument) → Asks a s ask found response t → (t ≡ s) ⊎ LosesReplyTo a s ask found t
  asks_lost ask None refuses = inl refuses.1
  asks_lost ask (Some o) asks = go (deed_of o ask) asks
    where
      go : (deed : Result Deed Refusal) → MatchResult deed (λ deed. Performs a s o deed response t) (λ cause. Refuses a s cause response t)
          → (t ≡ s) ⊎ MatchResult deed (λ deed. (p : OpenDocument) × LosesReply a.acts a.reads s.documents o deed p × (t ≡ record s { opened = put_opened p s.opened })) (λ cause. ⊥)
      go (Ok deed) (documents, p, does, put) =
          let (lost, same) = does_lost documents o p deed does in
          inr (p, lost, put ∙ ap (λ ds. record { documents = ds; opened = put_opened p s.opened }) same)
      go (Err cause) refuses = inl refuses.1

  opens_same : (number : ℕ) (o : Option OpenDocument) → Opens a s number o response t → t ≡ s
  opens_same number (Some o) opens = opens.1
  opens_same number None (Ok seat, documents, opens, (is, new)) = short response (line_reply.Opened seat) is refl takes
  opens_same number None (Err cause, documents, opens, (is, new)) = short response (refused cause) is refl takes

  of_lost : (number : ℕ) (ask : DocRequest) → AsksOf a s number ask response t → (t ≡ s) ⊎ LosesReplyTo a s ask (opened_at number s.opened) t
  of_lost number ask.Open opens = inl (opens_same number (opened_at number s.opened) opens)
  of_lost number ask asks = asks_lost ask (opened_at number s.opened) asks

  on_lost : (number : Option ℕ) (ask : DocRequest) → OnDocument a s number ask response t → (t ≡ s) ⊎ LosesReplyOn a s number ask t
  on_lost None ask refuses = inl refuses.1
  on_lost (Some number) ask asks = of_lost number ask asks

  serves_lost : (request : Request) → Serves a s request response t → (t ≡ s) ⊎ LosesReplyToRequest a s request t
  serves_lost (Of name ask) serves = on_lost (number_of_name name a.names) ask serves
  serves_lost request serves = inl serves.1

  answers_lost : (line : List ℕ) → AnswersLine a s line response t → (t ≡ s) ⊎ LosesReplyToLine a s line t
  answers_lost line answers = go (request_of line) answers
    where
      go : (r : Result Request Refusal) → MatchResult r (λ request. Serves a s request response t) (λ cause. Refuses a s cause response t)
          → (t ≡ s) ⊎ MatchResult r (λ request. LosesReplyToRequest a s request t) (λ cause. ⊥)
      go (Ok request) serves = serves_lost request serves
      go (Err cause) refuses = inl refuses.1

-- what is response of an answer is an answer
pub answers_written : {D : Type 0} (a : Access D)
    → ((old new : D) (number : ℕ) (s t : KnownSeat) (command : Command) (reply : Reply) → a.acts old number s command reply new t → needs_heap reply ≡ false)
    → (s t : Session D) (line : List ℕ) (response out : LineReply) → MayAnswerLine a s line response t → MayWrite response out → MayAnswerLine a s line out t
answers_written a acts_short s t line response out answers (inl is) = subst (λ (o : LineReply). MayAnswerLine a s line o t) (sym is) answers
answers_written a acts_short s t line response out (inl answers) (inr (takes, is)) = inr (is, answers_lost a acts_short s t response takes line answers)
answers_written a acts_short s t line response out (inr lacks) (inr (takes, is)) = short response (refused NoMemory) lacks.0 refl takes

-- and the last where that is the last
pub bye_written : (response out : LineReply) → MayWrite response out → is_bye response ≡ is_bye out
bye_written response out (inl is) = ap is_bye (sym is)
bye_written response out (inr (takes, is)) = by response takes ∙ ap is_bye (sym is)
  where
    by : (response : LineReply) → line_needs_heap response ≡ true → is_bye response ≡ false
    by line_reply.Bye h = absurd (cc)
    by other h = refl

-- ---- that there is no memory is response in its place

pub lack_written : {E : Type 0} (r : Result (Unit {0}) E) (response : LineReply) (a b c : Option (List ℕ)) → b ≡ a → line_needs_heap response ≡ true
    → OnOk r (Appends b c (reply_line (refused NoMemory))) → OnOk r ((out : LineReply) × MayWrite response out × Appends a c (reply_line out))
lack_written (Ok x) response a b c same takes appends =
    (refused NoMemory, inr (takes, refl), subst (λ (o : Option (List ℕ)). Appends o c (reply_line (refused NoMemory))) same appends)
lack_written (Err x) response a b c same takes appends = tt

pub lack_cut : {E : Type 0} (r : Result (Unit {0}) E) (response : LineReply) (a b c : Option (List ℕ)) → b ≡ a → line_needs_heap response ≡ true
    → OnErr r (AppendsCut b c (reply_line (refused NoMemory))) → OnErr r ((out : LineReply) × MayWrite response out × AppendsCut a c (reply_line out))
lack_cut (Ok x) response a b c same takes appends = tt
lack_cut (Err x) response a b c same takes appends =
    (refused NoMemory, inr (takes, refl), subst (λ (o : Option (List ℕ)). AppendsCut o c (reply_line (refused NoMemory))) same appends)

-- a line that is response has its newline at least
pub line_not_empty : (response : LineReply) → 0 < length (reply_line response)
line_not_empty response = omega (arith, length-append (line_reply_text response) (10 ∷ []))
