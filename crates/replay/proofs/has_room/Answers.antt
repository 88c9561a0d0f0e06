-- Room for a record an event is known at once; else the records were counted.
use Rattle.replay.proofs.Room.{room_measured}
use Rattle.replay.proofs.has_room.Goals as goal

pub returns : goal.returns
returns c =
    room_measured c.requires c.args.bytes c.measure-records.ensures
