use Rattle.pam_image.proofs.SayLaws.{always, complete}
use Rattle.pam_image.proofs.LoopLaws.{reads_of}
use Rattle.images.specs.Pictures.{Pictures}
use Rattle.pam_image.proofs.reading.read_images.Goals as goal

pub returns-clause-reads : goal.returns-clause-reads
returns-clause-reads g c =
    reads_of c.args.want.now _ _ c.read_series.result c.read_series.ensures.reads

pub returns-clause-first_fault : goal.returns-clause-first_fault
returns-clause-first_fault g c = λ bytes fault e found still.
    always (λ (images : Pictures). images) _ _ c.read_series.result fault _
    (c.read_series.ensures.reads bytes e) c.read_series.ensures.outside.read_fault found still

pub returns-clause-complete : goal.returns-clause-complete
returns-clause-complete g c = λ bytes images e found still.
    complete (λ (images : Pictures). images) _ _ c.read_series.result images _
    (c.read_series.ensures.reads bytes e) c.read_series.ensures.outside.read_fault found still
