-- The laws of reading, together.
use Rattle.job.specs.Laws.{ReadingLaws}
use Rattle.job.proofs.Back.{reads_back}
use Rattle.job.proofs.Only.{only_jobs}
use Rattle.job.proofs.Faults.{nothing_after, first_fault}

pub reading_laws : ReadingLaws
reading_laws = record { reads_back = reads_back; only_jobs = only_jobs; nothing_after = nothing_after; first_fault = first_fault }
