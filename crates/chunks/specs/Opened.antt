-- What the program's desk holds before any byte is read.
use Rattle.std.specs.Prelude.{◌*◌, pos, replicate}
use Rattle.desk.specs.Desk.{room}
use Rattle.desk.specs.Kept.{table_room, kept_bytes}
use Rattle.records.specs.Left.{Slices, slices}

-- each line's store starts as all zero; so do the two tables, and the text line that has not ended
abbrev pub zeros : Slices
zeros =
    let store = replicate (2 * room) (pos 0) in
    let table = replicate table_room (pos 0) in
    slices store store table table (replicate kept_bytes 0)
