-- A state of segments over a machine.
use Rattle.std.proofs.Common.{List, Option}
use Rattle.interface_callers.proofs.Words.{Machine, Segments}
use Rattle.seg_manager.specs.Seen.{references_seen}
use Rattle.seg_manager.specs.Stepping.{State}
use Rattle.seg_manager.specs.declared.tables.Named.{Named}

abbrev pub state_over : Option Segments → Machine → List Named → State
state_over told m caches = record { references = references_seen m told caches; segments = told }
