-- The numbers of a flash that a caller gives.
use Rattle.history_machine.specs.Machine as machine
use Rattle.plain_machine.specs.declared.space.Space.{Space}

abbrev pub space_of : Space → machine.Space
space_of space = record { blocks = space.blocks; bad = space.bad; free = space.free; anchors = space.anchors }
