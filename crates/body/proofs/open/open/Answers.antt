use Rattle.body.proofs.Sounding.{drafted_sound}
use Rattle.body.proofs.open.open.Goals as goal

pub returns-clause-sound : goal.returns-clause-sound
returns-clause-sound c = drafted_sound c.index.new.rows c.args.file.now
