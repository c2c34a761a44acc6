use Rattle.mesos_node.proofs.serve.serve_folder.Given as goal

abbrev pub ghosts-serve_cluster : goal.ghosts-serve_cluster
ghosts-serve_cluster g a = record { name = a.blank.name; parts = a.blank.parts }
