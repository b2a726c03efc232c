-- A record as the lists that its slices show.
-- Assumes nothing.
use Rattle.merge_line.specs.Parts.{blocks_in}
use Rattle.replay_record.specs.Parts.{Recorded}
use Rattle.replay_record.specs.declared.Record.{Record}

abbrev pub lists : Record → Recorded
lists r = record { head = r.head.now; parts = blocks_in r.parts; tail = r.tail.now }
