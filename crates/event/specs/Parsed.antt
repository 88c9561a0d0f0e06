-- An event as this crate hands it out.
use Rattle.machine.specs.Events as rule
use Rattle.event.specs.declared.Event.{Event}

-- the rules' event in this crate's struct
abbrev pub event_of : rule.Event → Event
event_of v = record { process = v.process; code = v.code; message = v.message }

-- this crate's struct as the rules' event
abbrev pub ruled : Event → rule.Event
ruled v = record { process = v.process; code = v.code; message = v.message }
