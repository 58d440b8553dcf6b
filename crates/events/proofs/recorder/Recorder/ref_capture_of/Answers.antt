use Rattle.scene.proofs.Under.{sound_of, expr_read_below}
use Rattle.events.proofs.recorder.Recorder.ref_capture_of.Goals as goal

pub place_without_adjust-requires : goal.place_without_adjust-requires
place_without_adjust-requires g c =
    expr_read_below _ (sound_of c.args.self.now.scene.now.body.now) c.args.n c.args.node c.requires
