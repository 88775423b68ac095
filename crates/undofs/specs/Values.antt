-- The replies from which calls of `Fs` take what they answer.
use Rattle.fs_types.specs.declared.call.Reply.{Reply}
use Rattle.undofs.specs.declared.descriptor.Descriptor.{Descriptor}
use Rattle.undofs.specs.declared.log.Log.{Log}
use Rattle.undofs.specs.declared.space.Space.{Space}

abbrev pub descriptor_reply : Descriptor → Reply
descriptor_reply descriptor = Reply.Fd descriptor.number

abbrev pub log_reply : Log → Reply
log_reply log = Reply.Log log.next log.dropped log.versions log.cursor log.checkpoints

abbrev pub space_reply : Space → Reply
space_reply space = Reply.Df space.blocks space.bad space.free space.anchors
