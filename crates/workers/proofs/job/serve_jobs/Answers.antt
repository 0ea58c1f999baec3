use denote.Param.Send.{sendable}
use Rattle.std.proofs.Crossing.{crosses}
use Rattle.doors.proofs.outside.Worker.TheSendSync as outsides
use Rattle.doors.proofs.serve.DoorEnd.TheSendSync as ends
use Rattle.workers.proofs.SendLemmas.{home_field_send}
use Rattle.workers.proofs.job.serve_jobs.Goals as goal

pub for_each_mut-requires-send-T : goal.for_each_mut-requires-send-T
for_each_mut-requires-send-T g c κs within = search (sendable, home_field_send, outsides.the_field_send, ends.the_field_send) depth 20
