use Rattle.std.proofs.Common.{Some, None, sym}
use Rattle.std.proofs.lemmas.Result.{err_from_is_err_and}
use Rattle.passes.proofs.Taking.{room_ok, refused_anyway, room_refusal}
use Rattle.passes.proofs.nights.Night.read_for_room.Goals as goal

pub returns-in_err-night : goal.returns-in_err-night
returns-in_err-night c =
    let a = c.args in
    let p = err_from_is_err_and c.from_residual.result c.from_residual.ensures.1 in
    record {
      refusal = rw (p.1, p.2) (refused_anyway a.dishes a.turn a.numbers.now a.room c.in_err-night.field-0.0 c.in_err-night.ensures.refusal);
      night = rw p.1 tt;
    }

pub returns-in_err-check_room : goal.returns-in_err-check_room
returns-in_err-check_room c =
    let a = c.args in
    let p = err_from_is_err_and c.from_residual-in_err-check_room.result c.from_residual-in_err-check_room.ensures.1 in
    let told = c.in_ok-night.ensures in
    record {
      refusal = rw (p.1, p.2) (room_refusal a.dishes a.turn a.numbers.now c.in_ok-night.night a.room (Some c.in_err-check_room.field-0.0) told.refusal told.night c.in_err-check_room.ensures);
      night = rw p.1 tt;
    }

pub returns : goal.returns
returns c =
    let a = c.args in
    let told = c.in_ok-night.ensures in
    record {
      refusal = room_refusal a.dishes a.turn a.numbers.now c.in_ok-night.night a.room None told.refusal told.night c.in_ok-check_room.ensures;
      night = (told.night, room_ok _ _ (sym c.in_ok-check_room.ensures));
    }
