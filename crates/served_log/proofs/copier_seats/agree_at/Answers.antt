use Rattle.std.proofs.Common.{◌≡◌, ◌<◌, length, get_or, rules, sym}
use Rattle.served_log.proofs.Knowing.{same_number}
use Rattle.served_log.proofs.copier_seats.agree_at.Goals as goal

pub agree-requires : goal.agree-requires
agree-requires g c =
    let inside : c.args.i < length c.seats.inside.seats.items = search rules in
    let book : get_or c.args.books.now c.args.i c.index-books-i.result ≡ c.index-books-i.result = search rules in
    let seat : c.index.result.now ≡ get_or c.seats.inside.seats.items c.args.i c.index.result.now = search rules in
    same_number c.args.books.now c.seats.inside.seats.items c.args.i c.index-books-i.result c.index.result.now c.requires.books c.seats.invariant c.requires.there.0 inside (sym book) seat
