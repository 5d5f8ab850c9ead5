-- What a refusal leaves as it was.
use Rattle.std.specs.Prelude.{◌≡◌, ◌+◌}
use Rattle.json_scalar.specs.declared.refusal.Refusal.{Refusal}
use Rattle.doc_api.specs.declared.reply.Reply.{Reply}
use Rattle.doc_api.specs.declared.reply.Reply.TheVariants.{Refused}
use Rattle.doc_rules.specs.Seats.{Seat}

-- what is answered by a refusal, for whatever cause, leaves this as it was
abbrev pub RefusalsKeep : {X : Type 0} → X → (Reply → X → Type 0) → Type 0
RefusalsKeep {X} x does = (cause : Refusal) (y : X) → does (Refused cause) y → y ≡ x

-- a seat after one more call, in which nothing was logged for it
abbrev pub called : Seat → Seat
called s = record s { calls = s.calls + 1 }
