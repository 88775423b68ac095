-- A request that is lent, as the call that it is.
use Rattle.std.specs.Option.{option_copied}
use Rattle.fs_types.specs.declared.call.Call.{Call}
use Rattle.fs_types.specs.declared.request.Request.{Request}

abbrev pub call_of : Request → Call
call_of (Request.Open path flags) = Call.Open path.now flags
call_of (Request.Close descriptor) = Call.Close descriptor
call_of (Request.Pread descriptor offset count) = Call.Pread descriptor offset count
call_of (Request.Pwrite descriptor offset bytes) = Call.Pwrite descriptor offset bytes.now
call_of (Request.Ftruncate descriptor length) = Call.Ftruncate descriptor length
call_of (Request.WriteFile path bytes) = Call.WriteFile path.now bytes.now
call_of (Request.WriteFiles directory files) = Call.WriteFiles directory.now files.now
call_of (Request.Rename old new) = Call.Rename old.now new.now
call_of (Request.Unlink path) = Call.Unlink path.now
call_of (Request.Mkdir path) = Call.Mkdir path.now
call_of (Request.Rmdir path) = Call.Rmdir path.now
call_of (Request.Fsync descriptor) = Call.Fsync descriptor
call_of Request.Sync = Call.Sync
call_of (Request.Stat view path) = Call.Stat view.now path.now
call_of (Request.List view path) = Call.List view.now path.now
call_of (Request.ReadAt view path offset count) = Call.ReadAt view.now path.now offset count
call_of (Request.Entries view path from most) = Call.Entries view.now path.now (option_copied from) most
call_of Request.Log = Call.Log
call_of Request.Df = Call.Df
call_of Request.Undo = Call.Undo
call_of Request.Redo = Call.Redo
call_of (Request.Goto serial) = Call.Goto serial
call_of (Request.Rollback name) = Call.Rollback name.now
call_of (Request.Forget count) = Call.Forget count
call_of (Request.Checkpoint name) = Call.Checkpoint name.now
call_of (Request.RemoveCheckpoint name) = Call.RemoveCheckpoint name.now
call_of Request.Begin = Call.Begin
call_of Request.End = Call.End
call_of Request.Abandon = Call.Abandon
