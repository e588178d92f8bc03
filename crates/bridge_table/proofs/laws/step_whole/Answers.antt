use Rattle.bridge_table.proofs.laws.step_whole.Goals as goal

pub returns : goal.returns
returns c = record {
  whole =
      λ old new e to_engine to_server status found engine server is same.
      record {
        out = found.0;
        row = found.1;
        config = same;
        engine_text = engine found.0 found.1;
        server_text = server found.0 found.1;
        status_is = is;
      };
}
