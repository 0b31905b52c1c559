use Rattle.graph.proofs.LinkPaths.{links_suffice}
use Rattle.graph.proofs.Triangles.{triangles_suffice, all_triangles_suffice}
use Rattle.graph.proofs.laws.triangles_suffice.Goals as goal

pub returns : goal.returns
returns c = record { wanted = triangles_suffice; all = all_triangles_suffice; links = links_suffice }
