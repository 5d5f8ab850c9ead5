use Rattle.std.proofs.Common.{◌∙◌, ◌≤◌, sym, subst}
use Rattle.std.proofs.Math.Nat.{le-max_left, le-max_right}
use Rattle.server_core.specs.Owed.{owes}
use Rattle.server_core.proofs.Somewhere.{IsFound, acts_there, durable_there, owed_there}
use Rattle.server_core.proofs.access.act_on.Goals as goal

pub returns-clause-acts : goal.returns-clause-acts
returns-clause-acts g c =
    let d = c.args.doc.now in
    let mine = c.requires.own in
    let found : IsFound g.M.Marker.origin c.args.number d =
    record { numbered = c.requires.number; sound = c.keeps_sound.ensures.sound; named = c.keeps_sound.ensures.named; begun = c.keeps_sound.ensures.begun } in
    acts_there g.M.Marker.origin c.args.number d c.act-answer.new.self c.args.seat.now c.act-answer.new.seat c.args.command c.act-answer.result found
    (c.act-answer.ensures.own mine) mine.2 mine.1 (c.act-answer.ensures.told mine).0

pub returns-clause-call : goal.returns-clause-call
returns-clause-call g c = (c.act-answer.ensures.own c.requires.own).answer

pub returns-clause-owed : goal.returns-clause-owed
returns-clause-owed g c = λ owed.
    let d = c.args.doc.now in
    let e = c.act-answer.new.self in
    let mine = c.requires.own in
    let found : IsFound g.M.Marker.origin c.args.number e =
    record {
      numbered = c.act-answer.ensures.number ∙ c.requires.number;
      sound = c.keeps_sound-2.ensures.sound;
      named = c.keeps_sound-2.ensures.named;
      begun = c.keeps_sound-2.ensures.begun;
    } in
    owed_there g.M.Marker.origin c.args.number d e c.args.seat.now c.act-answer.new.seat c.args.command c.act-answer.result c.owed_count.result found
    (c.act-answer.ensures.own mine) mine.2 mine.1 (c.act-answer.ensures.told mine).1 c.owed_count.ensures
    (owes c.args.owing.now c.args.number) (owes c.raise.new.self c.args.number) owed
    (subst (λ n. owes c.args.owing.now c.args.number ≤ n) (sym c.raise.ensures.count) (le-max_right c.owed_count.result _))
    (subst (λ n. c.owed_count.result ≤ n) (sym c.raise.ensures.count) (le-max_left c.owed_count.result _))

pub returns-clause-durable : goal.returns-clause-durable
returns-clause-durable g c =
    let d = c.args.doc.now in
    let mine = c.requires.own in
    let found : IsFound g.M.Marker.origin c.args.number d =
    record { numbered = c.requires.number; sound = c.keeps_sound.ensures.sound; named = c.keeps_sound.ensures.named; begun = c.keeps_sound.ensures.begun } in
    durable_there g.M.Marker.origin c.args.number d c.act-answer.new.self c.args.seat.now c.act-answer.new.seat c.args.command c.act-answer.result (owes c.raise.new.self c.args.number) found
    (c.act-answer.ensures.own mine) mine.2 mine.1 (c.act-answer.ensures.told mine).0 (subst (λ n. n ≤ owes c.raise.new.self c.args.number) c.owed_count.ensures
    (subst (λ n. c.owed_count.result ≤ n) (sym c.raise.ensures.count) (le-max_left c.owed_count.result _)))
