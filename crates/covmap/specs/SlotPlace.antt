-- A place among the slots, as contracts see it.
use Rattle.covmap.specs.declared.slots.SlotIndex.{SlotIndex}
use Rattle.covmap.specs.Slots.{At}

abbrev pub at : SlotIndex → At
at place = (place.page, place.index)
