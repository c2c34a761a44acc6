use Rattle.http_serve.proofs.Finding.{finished_by}
use Rattle.http_serve.proofs.arrivals.TcpArrivals.is_office_finished.Goals as goal

pub returns-in-Ok : goal.returns-in-Ok
returns-in-Ok g c = λ ends. finished_by _ _ _ c.in-Ok.waited (c.is_end.ensures ends) c.in-Ok.ensures.waited
