use denote.Param.Send.{IsSend, IsSync, sendable}
use Rattle.board_service.proofs.Threads.{service_pass_send, backend_sync}
use Rattle.board_service.proofs.serve.serve_by.Goals as goal

pub serve_open-requires-send-B-Pass : goal.serve_open-requires-send-B-Pass
serve_open-requires-send-B-Pass g c κs within =
    let d : IsSend _ = c.type_bounds.send-D in
    let f : IsSend _ = c.type_bounds.send-F in
    let k : IsSend _ = c.type_bounds.send-C in
    search (sendable, service_pass_send) depth 40 fits 20000

pub serve_open-requires-sync-B : goal.serve_open-requires-sync-B
serve_open-requires-sync-B g c κs within =
    let d : IsSend _ = c.type_bounds.send-D in
    let f : IsSend _ = c.type_bounds.send-F in
    let k : IsSend _ = c.type_bounds.send-C in
    let r : IsSync _ = c.type_bounds.sync-R in
    let h : IsSync _ = c.type_bounds.sync-G in
    search (sendable, backend_sync) depth 40 fits 20000
