-- What a command does where memory is at hand throughout.
use Rattle.std.specs.Prelude.{ℕ}
use Rattle.doc_api.specs.declared.ask.Command.{Command}
use Rattle.doc_api.specs.declared.ask.Command.TheVariants.{Change, Deliver, Forget}
use Rattle.doc_api.specs.declared.reply.Reply.{Reply}
use Rattle.crdt_rules.specs.Fits.{Fits}
use Rattle.doc_rules.specs.Events.{Expected, replied, held, logged, Settles, expected_at_place}
use Rattle.doc_rules.specs.Events.{expected_of_delivery}
use Rattle.doc_rules.specs.Events.{Does}
use Rattle.doc_rules.specs.Replica.{Replica, Drains}
use Rattle.doc_rules.specs.Replica.Drains.{done, logs, drops}

-- nothing that fits is dropped
abbrev pub DropsMisfits : {r s : Replica} {n d : ℕ} → Drains r n d s → Type 0
DropsMisfits (done none) = Unit {0}
DropsMisfits (logs next fits rest) = DropsMisfits rest
DropsMisfits (drops {r} {op = op} next rest) = ¬ (Fits op r.log) × DropsMisfits rest

abbrev pub SettlesAll : (r : Replica) (due : Expected) (reply : Reply) (s : Replica)
    → Settles r due reply s → Type 0
SettlesAll r (replied answer) reply s h = Unit {0}
SettlesAll r (held op) reply s h = Unit {0}
SettlesAll r (logged op) reply s h = DropsMisfits h.drains

abbrev pub DoesAll : (r : Replica) (command : Command) (reply : Reply) (s : Replica)
    → Does r command reply s → Type 0
DoesAll r (Change place m) reply s h = SettlesAll r (expected_at_place r h.0 m) reply s h.2
DoesAll r (Deliver op) reply s h = SettlesAll r (expected_of_delivery r op) reply s h
DoesAll r (Forget i) reply s h = Unit {0}

-- a command done with memory at hand
abbrev pub DoesFully : Replica → Command → Reply → Replica → Type 0
DoesFully r command reply s = (h : Does r command reply s) × DoesAll r command reply s h
