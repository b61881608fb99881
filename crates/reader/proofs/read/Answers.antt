-- `read` meets its contract: the columns, the front of the file, then its runs. Assumes nothing.
use mathlib.Core.Path.{◌∙◌, sym}
use Rattle.columns.specs.Lent.{held}
use Rattle.sounding.specs.Answers.{front_of}
use Rattle.reader.proofs.Loading.{runs_kept, no_room, room_enough, grid_read}
use Rattle.reader.proofs.read.Goals as goal

pub returns-then-lent-grid-clause-read : goal.returns-then-lent-grid-clause-read
returns-then-lent-grid-clause-read c =
    let m = held c.args.lent.now in
    no_room c.args.bytes.now m (sym c.is_even.ensures ∙ c.if-not-is_even.false) (front_of c.in_ok-head.head) (sym c.in_ok-head.ensures)
    c.sound-sounding.result c.sound-sounding.ensures c.in_ok-sounding.was c.if-lent-grid.true

pub columns-requires-clause-runs_sound : goal.columns-requires-clause-runs_sound
columns-requires-clause-runs_sound c =
    let m = held c.args.lent.now in
    runs_kept c.args.bytes.now m (sym c.is_even.ensures ∙ c.if-not-is_even.false) (front_of c.in_ok-head.head) (sym c.in_ok-head.ensures)
    c.sound-sounding.result c.sound-sounding.ensures c.in_ok-sounding.was

pub columns-requires-clause-room : goal.columns-requires-clause-room
columns-requires-clause-room c =
    let m = held c.args.lent.now in
    room_enough c.args.bytes.now m (sym c.is_even.ensures ∙ c.if-not-is_even.false) (front_of c.in_ok-head.head) (sym c.in_ok-head.ensures)
    c.sound-sounding.result c.sound-sounding.ensures c.in_ok-sounding.was c.if-lent-grid.false

pub returns-clause-read : goal.returns-clause-read
returns-clause-read c =
    let m = held c.args.lent.now in
    grid_read c.args.bytes.now m (sym c.is_even.ensures ∙ c.if-not-is_even.false) (front_of c.in_ok-head.head) (sym c.in_ok-head.ensures)
    c.sound-sounding.result c.sound-sounding.ensures c.in_ok-sounding.was c.if-lent-grid.false _ c.columns.ensures.filled
